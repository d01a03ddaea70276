-- Lines of ROAs, one behind the other.
use Rattle.std.proofs.Common.{◌+◌, ℕ, List, [], ◌∷◌, ◌++◌, sym, ◌∙◌, arith, append_assoc}
use Rattle.std.proofs.lemmas.List.{length-append}
use Rattle.ixp_num.specs.declared.roa.Roa.{Roa}
use Rattle.ixp_eval_trial.specs.Trials.{IsRoaLine, AreRoaLines, Behind}

roas_more : (ls : List (List ℕ)) (rs : List (List ℕ × Roa)) (l : List ℕ) (p : List ℕ × Roa) → AreRoaLines ls rs → IsRoaLine l p.0 p.1 → AreRoaLines (ls ++ l ∷ []) (rs ++ p ∷ [])
roas_more [] [] l p are is = (is, tt)
roas_more [] (r ∷ rs) l p are is = absurd are
roas_more (m ∷ ms) [] l p are is = absurd are
roas_more (m ∷ ms) (r ∷ rs) l p are is = (are.0, roas_more ms rs l p are.1 is)

pub one_more : (ls rest : List (List ℕ)) (first number : ℕ) (roas : List (List ℕ × Roa)) (line : List ℕ) (p : List ℕ × Roa) → Behind ls first roas number (line ∷ rest) → IsRoaLine line p.0 p.1 → Behind ls first (roas ++ p ∷ []) (number + 1) rest
one_more ls rest first number roas line p b is = record {
  before = b.before ++ line ∷ [];
  whole = b.whole ∙ sym (append_assoc b.before (line ∷ []) rest);
  are_roas = roas_more b.before roas line p b.are_roas is;
  is_number = let n = b.is_number in let size = length-append b.before (line ∷ []) in omega arith;
}
