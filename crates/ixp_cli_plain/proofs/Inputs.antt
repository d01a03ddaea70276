-- The dump in an input.
use Rattle.std.proofs.Common.{◌≡◌, ℕ, ◌+◌, Bool, true, false, ◌==◌, ◌&&◌, List, [], ◌∷◌, ◌++◌, length, take, drop, append_assoc, codes, refl, sym, ap, ◌∙◌, subst, add-one}
use Rattle.std.proofs.Math.Seq.{take-add}
use Rattle.ixp_num_tables.specs.Tables.{same}
use Rattle.ixp_registry_breach.proofs.Lists.{take_next}
use Rattle.ixp_cli_plain.specs.Inputs.{first_line, dump_from, dump_part}

abbrev ends_here : Bool → List ℕ → Bool
ends_here at_start t = at_start && same (codes "end ") (take 4 t)

-- the line that ends the dump
pub dump_ends : (text left : List ℕ) (c : ℕ) (cs line : List ℕ) (k : ℕ) (at_start : Bool) → left ≡ drop k text → left ≡ c ∷ cs → take k text ++ dump_from at_start left ≡ dump_part text
    → ends_here at_start left ≡ true → line ≡ first_line left → take (length line) left ≡ line → take (k + length line) text ≡ dump_part text
dump_ends text left c cs line k at_start rest is whole ends same front =
    let here : dump_from at_start left ≡ line =
    ap (dump_from at_start) is ∙ (rw (subst (λ l. ends_here at_start l ≡ true) is ends) (ap first_line (sym is)) ∙ sym same) in
    rw take-add (ap (λ t. take k text ++ take (length line) t) (sym rest) ∙ (ap (λ t. take k text ++ t) (front ∙ sym here) ∙ whole))

-- any other byte
pub dump_goes_on : (text left : List ℕ) (c : ℕ) (cs : List ℕ) (k : ℕ) (at_start : Bool) → left ≡ drop k text → left ≡ c ∷ cs → take k text ++ dump_from at_start left ≡ dump_part text
    → ends_here at_start left ≡ false → take (k + 1) text ++ dump_from (c == 10) cs ≡ dump_part text
dump_goes_on text left c cs k at_start rest is whole on =
    let here : dump_from at_start left ≡ c ∷ dump_from (c == 10) cs =
    ap (dump_from at_start) is ∙ rw (subst (λ l. ends_here at_start l ≡ false) is on) refl in
    let next : take (k + 1) text ≡ take k text ++ c ∷ [] = rw add-one (take_next text k c cs (sym is ∙ rest)) in
    ap (λ t. t ++ dump_from (c == 10) cs) next ∙ (append_assoc (take k text) (c ∷ []) (dump_from (c == 10) cs) ∙ (ap (λ t. take k text ++ t) (sym here) ∙ whole))
