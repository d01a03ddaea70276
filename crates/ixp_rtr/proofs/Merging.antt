-- Two sets in order, gone through side by side.
use Rattle.std.proofs.Common.{◌≡◌, ◌+◌, ◌<◌, ℕ, Bool, true, false, cond, not, ◌||◌, List, [], ◌∷◌, ◌++◌, length, get_or, take, map, refl, sym, ap, ◌∙◌}
use Rattle.std.specs.declared.cmp.Ordering.{Ordering}
use Rattle.std.specs.declared.cmp.Ordering.TheVariants.{Less, Equal, Greater}
use Rattle.std.specs.Ordering.{is_eq}
use Rattle.std.specs.List.{AllByRecursion}
use Rattle.std.proofs.lemmas.Grind.{flat_map-append}
use Rattle.std.proofs.lemmas.List.{map-append}
use Rattle.std.proofs.lemmas.List.Elements.{filter_more}
use Rattle.std.proofs.lemmas.Map.Text.{is_eq-slice_cmp}
use Rattle.ixp_num.specs.declared.roa.Roa.{Roa}
use Rattle.ixp_num_tables.specs.Tables.{order, Ascends}
use Rattle.ixp_num_tables.proofs.Orders.{turned, chained}
use Rattle.ixp_num_sorted.specs.Keys.{roa_key}
use Rattle.ixp_rtr.specs.declared.pdu.Pdu.{Pdu}
use Rattle.ixp_rtr.specs.Pdus.{pdu_bytes, pdus_bytes}
use Rattle.ixp_rtr.specs.Changes.{same_roa, is_among, others}

-- one is below another in the order of the keys
abbrev pub IsBelow : Roa → Roa → Type 0
IsBelow r s = order (roa_key r) (roa_key s) ≡ Less

-- ROAs are the same where their keys are
pub same_is : (r s : Roa) (o : Ordering) → order (roa_key r) (roa_key s) ≡ o → same_roa r s ≡ is_eq o
same_is r s o e = sym (is_eq-slice_cmp (roa_key r) (roa_key s)) ∙ ap is_eq e

or_false : (a b : Bool) → a ≡ false → (a || b) ≡ b
or_false a b e = ap (λ x. x || b) e

or_true : (a b : Bool) → a ≡ true → (a || b) ≡ true
or_true a b e = ap (λ x. x || b) e

-- the first one is below, or it is the one
pub past : (s r : Roa) (rest : List Roa) → IsBelow s r → is_among (s ∷ rest) r ≡ is_among rest r
past s r rest e = or_false (same_roa s r) (is_among rest r) (same_is s r Less e)

pub found : (s r : Roa) (rest : List Roa) → order (roa_key s) (roa_key r) ≡ Equal → is_among (s ∷ rest) r ≡ true
found s r rest e = or_true (same_roa s r) (is_among rest r) (same_is s r Equal e)

-- all are above
pub none : (rest : List Roa) (r : Roa) → AllByRecursion (IsBelow r) rest → is_among rest r ≡ false
none [] r above = refl
none (s ∷ rest) r above = or_false (same_roa s r) (is_among rest r) (same_is s r Greater (turned (roa_key r) (roa_key s) Less above.0)) ∙ none rest r above.1

all_above : (r s : Roa) (rest : List Roa) → IsBelow r s → AllByRecursion (IsBelow s) rest → AllByRecursion (IsBelow r) rest
all_above r s [] e above = tt
all_above r s (t ∷ rest) e above = (chained (roa_key r) (roa_key s) (roa_key t) e above.0, all_above r s rest e above.1)

pub above : (s r : Roa) (rest : List Roa) → Ascends roa_key (s ∷ rest) → order (roa_key s) (roa_key r) ≡ Greater → is_among (s ∷ rest) r ≡ false
above s r rest up e = let e_ : IsBelow r s = turned (roa_key s) (roa_key r) Greater e in none (s ∷ rest) r (e_, all_above r s rest e_ up.0)

-- later ROAs are in the other set if they are in its rest
pub later : (than left rest : List Roa) (r : Roa) (rs : List Roa) → AllByRecursion (IsBelow r) rs → AllByRecursion (λ s. is_among than s ≡ is_among left s) rs
    → ((s : Roa) → IsBelow r s → is_among left s ≡ is_among rest s) → AllByRecursion (λ s. is_among than s ≡ is_among rest s) rs
later than left rest r [] below all same = tt
later than left rest r (s ∷ rs) below all same = (all.0 ∙ same s below.0, later than left rest r rs below.1 all.1 same)

pub itself : (than rs : List Roa) → AllByRecursion (λ s. is_among than s ≡ is_among than s) rs
itself than [] = tt
itself than (s ∷ rs) = (refl, itself than rs)

-- the bytes of one more ROA
pub bytes_more : (pdu : Roa → Pdu) (set than : List Roa) (i : ℕ) (d : Roa) → i < length set
    → pdus_bytes (map pdu (others (take (i + 1) set) than))
    ≡ pdus_bytes (map pdu (others (take i set) than)) ++ pdus_bytes (map pdu (cond (not (is_among than (get_or set i d))) (get_or set i d ∷ []) []))
bytes_more pdu set than i d less =
    let new = λ (r : Roa). not (is_among than r) in
    ap (λ rs. pdus_bytes (map pdu rs)) (filter_more new set i d less)
    ∙ (ap pdus_bytes (map-append pdu (others (take i set) than) (cond (new (get_or set i d)) (get_or set i d ∷ []) []))
    ∙ flat_map-append pdu_bytes (map pdu (others (take i set) than)) (map pdu (cond (new (get_or set i d)) (get_or set i d ∷ []) [])))
