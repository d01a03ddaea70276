-- What the next lines add to a value.
use Rattle.std.proofs.Common.{◌≡◌, ℕ, ◌++◌, true, false, List, [], ◌∷◌, drop, if◌then◌else◌, sym, ap, ◌∙◌, append_assoc}
use Rattle.std.proofs.lemmas.List.{append-nil}
use Rattle.ixp_rpsl.specs.Lines.{Line}
use Rattle.ixp_rpsl.specs.Attributes.{goes_on, going, past_value, uncommented}

-- a line that goes on
pub going_more : (v : List ℕ) (l : Line) (ls : List Line) → goes_on l.bytes ≡ true → ((v ++ 32 ∷ uncommented (drop 1 l.bytes)) ++ going ls ≡ v ++ going (l ∷ ls)) × (past_value (l ∷ ls) ≡ past_value ls)
going_more v l ls e = (
  append_assoc v (32 ∷ uncommented (drop 1 l.bytes)) (going ls) ∙ ap (λ b. v ++ (if b then 32 ∷ uncommented (drop 1 l.bytes) ++ going ls else [])) (sym e),
  ap (λ b. if b then past_value ls else l ∷ ls) e,
)

-- one that doesn't
pub going_none : (v : List ℕ) (l : Line) (ls : List Line) → goes_on l.bytes ≡ false → (v ++ going (l ∷ ls) ≡ v) × (past_value (l ∷ ls) ≡ l ∷ ls)
going_none v l ls e = (
  ap (λ b. v ++ (if b then 32 ∷ uncommented (drop 1 l.bytes) ++ going ls else [])) e ∙ append-nil v,
  ap (λ b. if b then past_value ls else l ∷ ls) e,
)
