-- The ends of sessions and of following that the ends of their parts are.
use Rattle.nf_session.specs.declared.fault.FollowEnd.{FollowEnd}
use Rattle.nf_session.specs.declared.fault.FollowEnd.TheVariants as follow_end
use Rattle.nf_session.specs.declared.fault.Halt.{Halt}
use Rattle.nf_session.specs.declared.fault.Halt.TheVariants as halt
use Rattle.nf_session.specs.declared.fault.SessionEnd.{SessionEnd}
use Rattle.nf_session.specs.declared.fault.SessionEnd.TheVariants as session

-- the end of a session that an end of following lines is
abbrev pub session_end_of : FollowEnd → SessionEnd
session_end_of (follow_end.Trace why) = session.Trace why
session_end_of follow_end.WriteFault = session.WriteFault
session_end_of follow_end.NoMemory = session.NoMemory

-- the end of following lines that a halt of reading them is
abbrev pub follow_end_of : Halt → FollowEnd
follow_end_of (halt.Refused fault) = follow_end.Trace fault
follow_end_of halt.NoMemory = follow_end.NoMemory
