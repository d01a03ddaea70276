-- The plain functions of the head fit, wherever their names are free.
use Rattle.std.proofs.Common.{◌≡◌, ℕ, Bool, true, false, ◌==◌, [], ◌∷◌, codes, None, refl}
use Rattle.ixp_lang.specs.Trees.{function_item, stmts}
use Rattle.ixp_lang.specs.declared.item.Ty.TheVariants.{Int}
use Rattle.ixp_lang_exprs.specs.Names.{Names}
use Rattle.ixp_compile.specs.Header.{drop_body, pad_body, count_body, sends_body}
use Rattle.ixp_lang_laws.specs.SoundItems.{item_fits}

pub pad_fits : (number : ℕ) (names : Names) → names (codes "ixp_pad") ≡ None → Rattle.ixp_lang_exprs.specs.Declarations.is_free_in (names (codes "n")) number ≡ true → (number == number) ≡ true
    → item_fits number names (function_item (codes "ixp_pad") ((Int, codes "n") ∷ []) (stmts pad_body)) ≡ true
pad_fits number names free free_n same = rw (free, free_n, same) refl

pub count_fits : (number rs : ℕ) (names : Names) → names (codes "ixp_count") ≡ None → Rattle.ixp_lang_exprs.specs.Declarations.is_free_in (names (codes "p")) number ≡ true → (number == number) ≡ true
    → item_fits number names (function_item (codes "ixp_count") ((Int, codes "p") ∷ []) (stmts (count_body rs))) ≡ true
count_fits number rs names free free_p same = rw (free, free_p, same) refl

pub sends_fits : (number rs : ℕ) (names : Names) → names (codes "ixp_sends") ≡ None → Rattle.ixp_lang_exprs.specs.Declarations.is_free_in (names (codes "p")) number ≡ true → (number == number) ≡ true → (b : Bool) → Rattle.std.specs.Prelude.nat_le rs 65535 ≡ b
    → item_fits number names (function_item (codes "ixp_sends") ((Int, codes "p") ∷ []) (stmts (sends_body rs))) ≡ true
sends_fits number rs names free free_p same true small = rw (small, free, free_p, same, small) refl
sends_fits number rs names free free_p same false great = rw (great, free, free_p, same) refl

pub drop_free_fits : (number rs : ℕ) (names : Names) → names (codes "ixp_drop") ≡ None → Rattle.ixp_lang_exprs.specs.Declarations.is_free_in (names (codes "n")) number ≡ true → (number == number) ≡ true
    → item_fits number names (function_item (codes "ixp_drop") ((Int, codes "n") ∷ []) (stmts (drop_body rs))) ≡ true
drop_free_fits number rs names free free_n same = rw (free, free_n, same) refl
