-- With which tokens a statement begins, at any level.
use Rattle.std.proofs.Common.{◌≡◌, ℕ, zero, suc, Bool, true, false, ◌||◌, List, [], ◌∷◌, codes, refl, is_some}
use Rattle.ixp_lang_tokens.specs.declared.token.Kind.{Kind}
use Rattle.ixp_lang_tokens.specs.declared.token.Kind.TheVariants as kind
use Rattle.ixp_lang_tokens.specs.declared.token.Mark.TheVariants as mark
use Rattle.ixp_lang_tokens.specs.Reading.{begins}
use Rattle.ixp_lang_tokens.specs.Pieces.{is_next, if_so, same_word, same_mark}
use Rattle.ixp_lang_stmts.specs.Statements.{Frame, Returned, change_form, statement_with, statement_form}
use Rattle.ixp_lang_stmts.specs.Views.{begins_with}

deep_brace : (b : Bool) → ((b || false) || false) ≡ b
deep_brace true = refl
deep_brace false = refl

brace : (b : Bool) → (is_some (if_so b) || false) ≡ b
brace true = refl
brace false = refl

nine : (a b c d e f g h i : Bool)
    → (is_some (if_so a) || (is_some (if_so b) || (is_some (if_so c) || (is_some (if_so d) || (is_some (if_so e) || (is_some (if_so f) || (is_some (if_so g) || (is_some (if_so h) || is_some (if_so i)))))))))
    ≡ ((a || b || c) || (d || e || f || g) || (h || i))
nine true b c d e f g h i = refl
nine false true c d e f g h i = refl
nine false false true d e f g h i = refl
nine false false false true e f g h i = refl
nine false false false false true f g h i = refl
nine false false false false false true g h i = refl
nine false false false false false false true h i = refl
nine false false false false false false false true i = refl
nine false false false false false false false false true = refl
nine false false false false false false false false false = refl

deep_nine : (a b c d e f g h i : Bool)
    → (is_some (if_so a) || ((b || false) || (is_some (if_so c) || (is_some (if_so d) || (is_some (if_so e) || (is_some (if_so f) || (is_some (if_so g) || (is_some (if_so h) || is_some (if_so i)))))))))
    ≡ ((a || b || c) || (d || e || f || g) || (h || i))
deep_nine a true c d e f g h i = nine a true c d e f g h i
deep_nine a false c d e f g h i = nine a false c d e f g h i

pub begins_same : (frame : Frame) (d : ℕ) (in_arm : Bool) (r : Returned) (ts : List Kind) → begins (statement_form frame d in_arm r) ts ≡ is_next begins_with ts
unfolding statement_with change_form
begins_same frame zero in_arm r [] = refl
begins_same frame zero in_arm r (kind.Mark m ∷ ts) = deep_brace (same_mark m mark.BlockOpen)
begins_same frame zero in_arm r (kind.Name n ∷ ts) = refl
begins_same frame zero in_arm r (kind.Word w ∷ ts) =
    deep_nine (same_word w (codes "if")) (same_word w (codes "case")) (same_word w (codes "return")) (same_word w (codes "bgp_next_hop")) (same_word w (codes "bgp_path"))
    (same_word w (codes "bgp_community")) (same_word w (codes "bgp_large_community")) (same_word w (codes "accept")) (same_word w (codes "reject"))
begins_same frame zero in_arm r (kind.Number n ∷ ts) = refl
begins_same frame zero in_arm r (kind.Addr a ∷ ts) = refl
begins_same frame zero in_arm r (kind.Prefix p ∷ ts) = refl
begins_same frame zero in_arm r (kind.Text t ∷ ts) = refl
begins_same frame zero in_arm r (kind.BadByte ∷ ts) = refl
begins_same frame zero in_arm r (kind.BadNumber ∷ ts) = refl
begins_same frame (suc d) in_arm r [] = refl
begins_same frame (suc d) in_arm r (kind.Mark m ∷ ts) = brace (same_mark m mark.BlockOpen)
begins_same frame (suc d) in_arm r (kind.Name n ∷ ts) = refl
begins_same frame (suc d) in_arm r (kind.Word w ∷ ts) =
    nine (same_word w (codes "if")) (same_word w (codes "case")) (same_word w (codes "return")) (same_word w (codes "bgp_next_hop")) (same_word w (codes "bgp_path"))
    (same_word w (codes "bgp_community")) (same_word w (codes "bgp_large_community")) (same_word w (codes "accept")) (same_word w (codes "reject"))
begins_same frame (suc d) in_arm r (kind.Number n ∷ ts) = refl
begins_same frame (suc d) in_arm r (kind.Addr a ∷ ts) = refl
begins_same frame (suc d) in_arm r (kind.Prefix p ∷ ts) = refl
begins_same frame (suc d) in_arm r (kind.Text t ∷ ts) = refl
begins_same frame (suc d) in_arm r (kind.BadByte ∷ ts) = refl
begins_same frame (suc d) in_arm r (kind.BadNumber ∷ ts) = refl
