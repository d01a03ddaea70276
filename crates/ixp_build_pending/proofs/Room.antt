-- Room for texts changes nothing that is pending.
use Rattle.std.proofs.Common.{◌≡◌, ℕ, Bool, true, false, not, ◌==◌, List, [], ◌∷◌, ◌++◌, Option, Some, None, IsSome, filter, length, arith, refl, sym, ap, ◌∙◌, subst}
use Rattle.std.specs.declared.cmp.Ordering.{Ordering}
use Rattle.std.specs.declared.cmp.Ordering.TheVariants.{Less, Equal, Greater}
use Rattle.std.specs.List.{AllByRecursion}
use Rattle.ixp_num_tables.specs.Tables.{Ascends, find, order, put, if_there}
use Rattle.ixp_num_tables.proofs.Looking.{filter_put}
use Rattle.ixp_num_tables.proofs.TableLaws.{find-put-same-key, find-put-other}
use Rattle.ixp_num_tables.proofs.Orders.{all_weaker, order_same}
use Rattle.ixp_build_pending.specs.declared.name.TextName.{TextName}
use Rattle.ixp_build_pending.specs.declared.rows.PendingText.{PendingText}
use Rattle.ixp_build_pending.specs.Names.{row_key, text_key}
use Rattle.ixp_build_pending.specs.Rows.{HasRow, HasText, all_put, is_pending}

-- a row with the count 0 that comes isn't pending
pub room_unseen : (t : TextName) (rows : List PendingText) → find row_key (text_key t) rows ≡ None
    → filter is_pending (put row_key (record { text = t; count = 0 }) rows) ≡ filter is_pending rows
room_unseen t rows none = filter_put row_key is_pending (record { text = t; count = 0 }) rows refl (ap (λ o. if_there o false is_pending) none)

-- texts that have a row keep one
pub put_keeps : (r : PendingText) (rows : List PendingText) (t : TextName) → HasText rows t → HasText (put row_key r rows) t
put_keeps r rows t has = by_order (order (row_key r) (text_key t)) refl
  where
    by_order : (o : Ordering) → order (row_key r) (text_key t) ≡ o → HasText (put row_key r rows) t
    by_order Less e = subst IsSome (sym (find-put-other row_key (text_key t) r rows (λ same. let bad : ◌≡◌ {A = Ordering} Less Equal = sym e ∙ same in let no : ⊥ = cc in no))) has
    by_order Equal e = subst IsSome (sym (find-put-same-key row_key (text_key t) r rows e)) refl
    by_order Greater e = subst IsSome (sym (find-put-other row_key (text_key t) r rows (λ same. let bad : ◌≡◌ {A = Ordering} Greater Equal = sym e ∙ same in let no : ⊥ = cc in no))) has

pub put_has : (r : PendingText) (rows : List PendingText) → HasRow (put row_key r rows) r
put_has r rows = subst IsSome (sym (find-put-same-key row_key (row_key r) r rows (order_same (row_key r)))) refl

pub none_left : (P : PendingText → Type 0) (rs : List PendingText) → length rs ≡ 0 → AllByRecursion P rs
none_left P [] e = tt
none_left P (r ∷ rs) e = absurd (let bad : ⊥ = omega (arith, e) in bad)

pub all_keep : (fresh old new : List PendingText) → ((t : TextName) → HasText old t → HasText new t) → AllByRecursion (HasRow old) fresh → AllByRecursion (HasRow new) fresh
all_keep fresh old new keeps all = all_weaker (HasRow old) (HasRow new) (λ r has. keeps r.text has) fresh all

pub ruleset room_made = (room_unseen, put_keeps, put_has)
