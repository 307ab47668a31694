-- What reading one piece of a file does.
use Rattle.std.specs.Prelude.{◌≡◌, ℕ, ◌≤◌, List, drop, option_map, is_err, IfOk, IfErr, IfSome, OnErr, Result}
use Rattle.nf_io.specs.Bytes.{Gives}
use Rattle.nf_io.specs.Causes.{HasCause}
use Rattle.nf_io.specs.Tells.{ShelfTells}
use Rattle.nf_session.specs.declared.fault.SessionEnd.{SessionEnd}
use Rattle.nf_session.specs.declared.fault.SessionEnd.TheVariants as session
use Rattle.nf_session.specs.declared.pieces.TheConstants.{PIECE_LIMIT}

-- a piece of at most so many bytes was read into the first places of a buffer, or the shelf failed and stays where
-- it stood
pub record ReadsPiece (buffer : List ℕ) (most : ℕ) (result : Result ℕ SessionEnd)
    (before now : ShelfTells) : Type 0 where
  pub within : IfOk result (λ count. count ≤ most)
  pub one_piece : IfOk result (λ count. count ≤ PIECE_LIMIT)
  pub bytes : IfOk result (λ count. IfSome before.rest (Gives buffer count))
  pub rest : IfOk result (λ count. now.rest ≡ option_map (drop count) before.rest)
  pub unread : OnErr result (now.rest ≡ before.rest)
  pub end : IfErr result (λ end. end ≡ session.ReadFault)
  pub failed : now.failed ≡ is_err result
  pub cause : HasCause before.faults now.faults result
  pub files : now.files ≡ before.files
  pub asked : now.asked ≡ before.asked
  pub never_falls : before.faults ≤ now.faults
