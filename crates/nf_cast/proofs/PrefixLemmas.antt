-- A name that is written twice, with what stands round it.
use Rattle.std.proofs.Common.{◌≡◌, ℕ, List, [], ◌++◌, append_assoc, append-nil}

pub name_twice : (old mid name first second last : List ℕ) → mid ≡ old ++ first ++ name ++ second → mid ++ [] ++ name ++ last ≡ old ++ (first ++ name ++ second ++ name ++ last)
name_twice old mid name first second last e = rw e (simp (append-nil, append_assoc))
