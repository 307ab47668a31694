-- What was read of a file, from what was read of it piece by piece.
use Rattle.std.proofs.Common.{◌≡◌, ℕ, ◌+◌, ◌<◌, ◌≤◌, List, [], length, drop, Option, Some, None, IfSome, refl, sym, ◌∙◌, ap, arith, length-append, inl, inr}
use Rattle.std.proofs.Math.Seq.{drop-append_seam}
use Rattle.nf_io.specs.Files.{Files, bytes_of, asked_of}
use Rattle.nf_session.specs.Sessions.{piece_limit}
use Rattle.nfer_cli.specs.Answers.{StandsPastIn, StandsAtEnd, StandsShort}
use Rattle.nfer_cli.specs.inner.Reading.{HasRead, HasEnded, HasPassed, HasStopped}

-- more than some bytes were read, and at most one piece past them
pub passed : (most piece : ℕ) (whole bytes : List ℕ) (rest : Option (List ℕ)) → HasRead whole bytes rest → most < length bytes → length bytes ≤ most + piece → HasPassed most piece whole rest
passed most piece whole bytes rest read past within = record {
  read = length bytes;
  past = omega (arith, ap length read.split, length-append bytes read.left);
  more = past;
  within = within;
  told = read.told ∙ ap Some (sym (ap (drop (length bytes)) read.split ∙ drop-append_seam bytes read.left));
}

-- a read that fails leaves what was read
pub stopped : (most : ℕ) (whole bytes : List ℕ) (rest now : Option (List ℕ)) → HasRead whole bytes rest → length bytes ≤ most → now ≡ rest → HasStopped most whole now
stopped most whole bytes rest now read within stays = record {
  read = length bytes;
  within = within;
  told = stays ∙ read.told ∙ ap Some (sym (ap (drop (length bytes)) read.split ∙ drop-append_seam bytes read.left));
}

-- nothing was read yet
from_start : (whole : List ℕ) (rest : Option (List ℕ)) → rest ≡ Some whole → HasRead whole [] rest
from_start whole rest told = record { left = whole; told = told; split = refl }

pub told_ended : (told : Option Files) (name : List ℕ) (rest now : Option (List ℕ)) (bytes : List ℕ) → IfSome told (λ files. rest ≡ Some (bytes_of files name)) → ((whole : List ℕ) → HasRead whole [] rest → HasEnded whole bytes now) → IfSome told (λ files. HasEnded (bytes_of files name) bytes now)
told_ended None name rest now bytes picked ends = tt
told_ended (Some files) name rest now bytes picked ends = ends _ (from_start _ _ picked)

pub told_passed : (told : Option Files) (name : List ℕ) (rest now : Option (List ℕ)) (most piece : ℕ) → IfSome told (λ files. rest ≡ Some (bytes_of files name)) → ((whole : List ℕ) → HasRead whole [] rest → HasPassed most piece whole now) → IfSome told (λ files. HasPassed most piece (bytes_of files name) now)
told_passed None name rest now most piece picked passes = tt
told_passed (Some files) name rest now most piece picked passes = passes _ (from_start _ _ picked)

pub read_all : (told : Option Files) (name bytes : List ℕ) (now : Option (List ℕ)) → IfSome told (λ files. HasEnded (bytes_of files name) bytes now) → IfSome told (λ files. bytes ≡ bytes_of files name)
read_all None name bytes now ended = tt
read_all (Some files) name bytes now ended = ended.all

pub is_longer : (told : Option Files) (name : List ℕ) (most piece : ℕ) (now : Option (List ℕ)) → IfSome told (λ files. HasPassed most piece (bytes_of files name) now) → IfSome told (λ files. most < length (bytes_of files name))
is_longer None name most piece now passes = tt
is_longer (Some files) name most piece now passes = passes.past

pub stands_at_end : (told : Option Files) (name bytes : List ℕ) (picked last now : Option (List ℕ)) → IfSome told (λ files. picked ≡ Some (asked_of files name)) → last ≡ picked → IfSome told (λ files. HasEnded (bytes_of files name) bytes now) → IfSome told (λ files. StandsAtEnd files name last now)
stands_at_end None name bytes picked last now asked stays ended = tt
stands_at_end (Some files) name bytes picked last now asked stays ended = record { asked_is = stays ∙ asked; rest_is = ended.told }

pub stands_past : (told : Option Files) (name : List ℕ) (most : ℕ) (picked last now : Option (List ℕ)) → IfSome told (λ files. picked ≡ Some (asked_of files name)) → last ≡ picked → IfSome told (λ files. HasPassed most piece_limit (bytes_of files name) now) → IfSome told (λ files. StandsPastIn files name most last now)
stands_past None name most picked last now asked stays passes = tt
stands_past (Some files) name most picked last now asked stays passes = record { asked_is = stays ∙ asked; read = passes.read; past = passes.more; within = passes.within; rest_is = passes.told }

pub unpicked : (told : Option Files) (name : List ℕ) (most : ℕ) (last now : Option (List ℕ)) → now ≡ None → IfSome told (λ files. StandsShort files name most last now)
unpicked None name most last now none = tt
unpicked (Some files) name most last now none = inl none

pub stands_short : (told : Option Files) (name : List ℕ) (most : ℕ) (picked last rest now : Option (List ℕ)) → IfSome told (λ files. picked ≡ Some (asked_of files name)) → last ≡ picked → IfSome told (λ files. rest ≡ Some (bytes_of files name))
    → ((whole : List ℕ) → HasRead whole [] rest → HasStopped most whole now) → IfSome told (λ files. StandsShort files name most last now)
stands_short None name most picked last rest now asked stays full stops = tt
stands_short (Some files) name most picked last rest now asked stays full stops =
    let at : HasStopped most (bytes_of files name) now = stops _ (from_start _ _ full) in
    inr (record { asked_is = stays ∙ asked; read = at.read; within = at.within; rest_is = at.told })
