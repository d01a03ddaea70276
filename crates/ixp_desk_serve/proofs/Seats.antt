-- Seats of which each is alike.
use Rattle.std.proofs.Common.{◌≡◌, ◌<◌, ◌+◌, List, [], ◌∷◌, ◌++◌, length, sym, subst, arith}
use Rattle.std.specs.List.{All}
use Rattle.std.proofs.lemmas.List.{length-append}
use Rattle.std.proofs.Math.Seq.{get_or-append_seam}

-- what holds of all holds of the last one
pub of_last : {X : Type 0} (P : X → Type 0) (xs ys : List X) (x : X) → xs ≡ ys ++ x ∷ [] → All P xs → P x
of_last {X} P xs ys x is all =
    let small : length ys < length (ys ++ x ∷ []) = subst (λ n. length ys < n) (sym (length-append ys (x ∷ []))) (omega arith) in
    subst P (get_or-append_seam ys x [] x) (subst (λ (zs : List X). All P zs) is all (length ys) x small)
