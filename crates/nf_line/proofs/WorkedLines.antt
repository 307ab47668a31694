-- Worked lines and traces, computed by the definitions. What is expected was worked out by hand from the table.
use Rattle.std.proofs.Common.{◌≡◌, [], ◌∷◌, map, refl, pos, negsuc, Some, None, true, codes}
use Rattle.std.specs.Str.{is_utf8, chars}
use lib.Utf8.{encode}
use Rattle.nf_core.specs.declared.values.Value.TheVariants.{Bool, Int, Text}
use Rattle.nf_text.specs.Value.{spelling_of, whole_of}
use Rattle.nf_line.specs.Lines.{cut, cut_off, without_return, with_last}
use Rattle.nf_line.specs.Line.{line, line_within, Empty, Accepted, Faulty, NotText, Fields, Time, Span, Key, Counts}
use Rattle.nf_line.specs.Rows.{row_of}
use Rattle.nf_line.specs.Trace.{trace_from, trace_over, Done, Refused, TooLong, InNoForm, Falls}

-- lines that are refused
refused_lines :
    map line (
    codes "a"
    ∷ codes "a|1|k"
    ∷ codes "a|1|2|k|v|x"
    ∷ codes "|1|2||"
    ∷ codes "|1"
    ∷ codes "a|-1"
    ∷ codes "a|"
    ∷ codes "a|9223372036854775808"
    ∷ codes "a|00000000000000000001"
    ∷ codes "a|1|k|v|x"
    ∷ codes "a|x|1||"
    ∷ codes "a|9|8|;|"
    ∷ codes "a|1|2|;|1"
    ∷ codes "a|1|2|k|1;2"
    ∷ codes "a|1|k;|1;2"
    ∷ codes "a|1|k|1;2"
    ∷ codes "a|1||x"
    ∷ codes "a|1||;"
    ∷ codes "a|x|;|1"
    ∷ (97 ∷ 124 ∷ 49 ∷ 124 ∷ 124 ∷ 255 ∷ [])
    ∷ (97 ∷ 124 ∷ 13 ∷ 49 ∷ [])
    ∷ (97 ∷ 124 ∷ 49 ∷ 13 ∷ 13 ∷ [])
    ∷ [])
    ≡ map Faulty (Fields ∷ Fields ∷ Fields ∷ Fields ∷ Fields ∷ Time ∷ Time ∷ Time ∷ Time ∷ Time ∷ Time ∷ Span ∷ Key ∷ Counts ∷ Key ∷ Counts ∷ Counts ∷ Counts ∷ Time ∷ NotText ∷ NotText ∷ NotText ∷ [])
unfolding line line_within without_return is_utf8 chars encode
refused_lines = refl

-- lines that are empty or accepted
accepted_lines :
    map line ([] ∷ (13 ∷ []) ∷ codes "a|007" ∷ (97 ∷ 124 ∷ 55 ∷ 13 ∷ []) ∷ codes "a|9223372036854775807||" ∷ codes "a b|1|k;l;k|true;;-1" ∷ codes "a|1|k|007" ∷ codes "a|1|k|" ∷ codes "a|4|4||" ∷ codes "a|1|9|k|v" ∷ [])
    ≡ Empty
    ∷ Empty
    ∷ Accepted (codes "a") (pos 7) (pos 7) []
    ∷ Accepted (codes "a") (pos 7) (pos 7) []
    ∷ Accepted (codes "a") (pos 9223372036854775807) (pos 9223372036854775807) []
    ∷ Accepted (codes "a b") (pos 1) (pos 1) ((codes "k", Bool true) ∷ (codes "l", Text []) ∷ (codes "k", Int (negsuc 0)) ∷ [])
    ∷ Accepted (codes "a") (pos 1) (pos 1) ((codes "k", Text (codes "007")) ∷ [])
    ∷ Accepted (codes "a") (pos 1) (pos 1) ((codes "k", Text []) ∷ [])
    ∷ Accepted (codes "a") (pos 4) (pos 4) []
    ∷ Accepted (codes "a") (pos 1) (pos 9) ((codes "k", Text (codes "v")) ∷ [])
    ∷ []
unfolding line line_within without_return is_utf8 chars encode spelling_of whole_of
accepted_lines = refl

-- the last of repeated keys stands, and a key without a pair is missing
row : row_of (codes "a" ∷ codes "k" ∷ []) ((codes "k", Bool true) ∷ (codes "l", Text []) ∷ (codes "k", Int (pos 1)) ∷ []) ≡ None ∷ Some (Int (pos 1)) ∷ []
row = refl

-- the pieces of bytes with and without an LF at their end, and broken off
pieces : cut (97 ∷ 10 ∷ 10 ∷ 98 ∷ []) ≡ (97 ∷ []) ∷ [] ∷ (98 ∷ []) ∷ []
unfolding with_last
pieces = refl

pieces_ended : cut (97 ∷ 10 ∷ []) ≡ (97 ∷ []) ∷ []
unfolding with_last
pieces_ended = refl

pieces_broken_off : cut_off (97 ∷ 10 ∷ 10 ∷ 98 ∷ []) ≡ (97 ∷ []) ∷ [] ∷ []
unfolding with_last
pieces_broken_off = refl

-- times that fall: empty lines are counted, and the lines before the refused one are accepted
falling : trace_from 1 None Done (codes "a|5" ∷ [] ∷ codes "a|4" ∷ codes "a" ∷ [])
    ≡ record { events = record { number = 1; name = codes "a"; start = pos 5; stop = pos 5; pairs = [] } ∷ []; ending = Refused 3 (Falls (pos 5) (pos 4)) }
unfolding trace_over line line_within without_return is_utf8 chars encode
falling = refl

-- lines of intervals are ordered by their ends
ends_falling : trace_from 1 None Done (codes "a|4" ∷ codes "b|1|9||" ∷ codes "c|8" ∷ [])
    ≡ record {
      events = record { number = 1; name = codes "a"; start = pos 4; stop = pos 4; pairs = [] } ∷ record { number = 2; name = codes "b"; start = pos 1; stop = pos 9; pairs = [] } ∷ [];
      ending = Refused 3 (Falls (pos 9) (pos 8));
    }
unfolding trace_over line line_within without_return is_utf8 chars encode
ends_falling = refl

-- a refused line ends the trace
refused : trace_from 1 None Done (codes "a|5" ∷ codes "a" ∷ codes "b|6" ∷ [])
    ≡ record { events = record { number = 1; name = codes "a"; start = pos 5; stop = pos 5; pairs = [] } ∷ []; ending = Refused 2 (InNoForm Fields) }
unfolding trace_over line line_within without_return is_utf8 chars encode
refused = refl

-- a trace that is too long ends so where no line is refused
too_long : trace_from 1 None TooLong (codes "a|5" ∷ codes "b|5" ∷ [])
    ≡ record { events = record { number = 1; name = codes "a"; start = pos 5; stop = pos 5; pairs = [] } ∷ record { number = 2; name = codes "b"; start = pos 5; stop = pos 5; pairs = [] } ∷ []; ending = TooLong }
unfolding trace_over line line_within without_return is_utf8 chars encode
too_long = refl
