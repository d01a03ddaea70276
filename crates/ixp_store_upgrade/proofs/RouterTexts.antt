-- The line of a router in the two versions.
use Rattle.std.proofs.Common.{◌≡◌, ℕ, ◌<◌, ◌^◌, true, false, List, [], ◌∷◌, ◌++◌, append-nil, append_assoc, flat_map, codes, decimal, Option, Some, None, refl, sym, ap, ◌∙◌, subst, arith}
use Rattle.std.specs.Fmt.{digits}
use Rattle.std.specs.List.{AllByRecursion}
use Rattle.std.proofs.lemmas.Fmt.{decimal_injective}
use Rattle.std.proofs.lemmas.Grind.{flat_map-append}
use Rattle.ixp_num.specs.declared.addr.Addr.{Addr}
use Rattle.ixp_io.specs.declared.keeper.RowName.{RowName}
use Rattle.ixp_registry.specs.declared.kind.Kind.TheVariants.{Routers}
use Rattle.ixp_registry.specs.declared.router.Router.{Router}
use Rattle.ixp_rows_lines.specs.declared.version.Version.{Version}
use Rattle.ixp_rows_lines.specs.declared.version.Version.TheVariants.{One, Two}
use Rattle.ixp_rows_lines.specs.Fields.{Field, Number, is_break, field_text}
use Rattle.ixp_rows_lines.specs.Lines.{IsLine, IsOfVersion, address_field, field_or, router_fields, router_line}
use Rattle.ixp_rows_lines.proofs.Unbroken.{IsSolid, NoBreak, Unbroken, address_text, number_text, solid_unbroken}
use Rattle.ixp_store_rows.specs.Names.{Entry, fields_row, line_body}
use Rattle.ixp_store_damage.proofs.RowLines.{first_of, rest_of}
use Rattle.ixp_store_upgrade.specs.Versions.{body_now, router_row}

-- a router's name and its body
abbrev pub router_name : Router → RowName
router_name q = record { kind = 10; key = q.handle }

abbrev pub router_text : Version → Router → List ℕ
router_text version q = line_body Routers (router_line version q).fields

pub row_is : (version : Version) (q : Router) → router_row version q ≡ (router_name q, router_text version q)
unfolding fields_row
row_is One q = refl
row_is Two q = refl

-- the fields that version 1 doesn't have
abbrev hole : Router → Field
hole q = field_or (codes "-") address_field q.blackhole

spelt : Field → List ℕ
spelt f = 32 ∷ field_text f

two_is : (q : Router) → router_text Two q ≡ router_text One q ++ (32 ∷ (field_text (hole q) ++ (32 ∷ decimal q.max_comms)))
two_is q =
    let parts : flat_map (λ field. 32 ∷ field_text field) (router_fields q ++ hole q ∷ Number q.max_comms ∷ [])
    ≡ flat_map (λ field. 32 ∷ field_text field) (router_fields q) ++ flat_map (λ field. 32 ∷ field_text field) (hole q ∷ Number q.max_comms ∷ []) =
    flat_map-append (λ field. 32 ∷ field_text field) (router_fields q) (hole q ∷ Number q.max_comms ∷ []) in
    ap (λ t. codes "router" ++ t) parts
    ∙ (sym (append_assoc (codes "router") (flat_map (λ field. 32 ∷ field_text field) (router_fields q)) (flat_map (λ field. 32 ∷ field_text field) (hole q ∷ Number q.max_comms ∷ [])))
    ∙ ap (λ t. router_text One q ++ (32 ∷ (field_text (hole q) ++ (32 ∷ t)))) (append-nil (decimal q.max_comms)))

zero_text : decimal 0 ≡ codes "0"
unfolding digits
zero_text = refl

-- without them
pub plain_text : (q : Router) → IsOfVersion One q → router_text One q ++ codes " - 0" ≡ router_text Two q
plain_text q (none, zero) =
    sym
    (two_is q
    ∙ (ap (λ (o : Option Addr). router_text One q ++ (32 ∷ (field_text (field_or (codes "-") address_field o) ++ (32 ∷ decimal q.max_comms)))) none
    ∙ (ap (λ n. router_text One q ++ (32 ∷ (codes "-" ++ (32 ∷ decimal n)))) zero ∙ ap (λ t. router_text One q ++ (32 ∷ (codes "-" ++ (32 ∷ t)))) zero_text)))

-- no blank stands in a text without breaks
no_blank : (w x y : List ℕ) → Unbroken w → w ≡ x ++ 32 ∷ y → ⊥
no_blank [] [] y solid e = let bad : ◌≡◌ {A = List ℕ} [] (32 ∷ y) = e in cc
no_blank [] (c ∷ x) y solid e = let bad : ◌≡◌ {A = List ℕ} [] (c ∷ (x ++ 32 ∷ y)) = e in cc
no_blank (c ∷ w) [] y solid e = let bad : true ≡ false = ap is_break (sym (first_of c 32 w y e)) ∙ solid.0 in cc
no_blank (c ∷ w) (d ∷ x) y solid e = no_blank w x y solid.1 (rest_of c d w (x ++ 32 ∷ y) e)

-- a text tells its last word, and what stands before it
last_word : (x y v w : List ℕ) → Unbroken v → Unbroken w → x ++ 32 ∷ v ≡ y ++ 32 ∷ w → (x ≡ y) × (v ≡ w)
last_word [] [] v w p q e = (refl, rest_of 32 32 v w e)
last_word [] (c ∷ y) v w p q e = absurd (no_blank v y w p (rest_of 32 c v (y ++ 32 ∷ w) e))
last_word (c ∷ x) [] v w p q e = absurd (no_blank w x v q (sym (rest_of c 32 (x ++ 32 ∷ v) w e)))
last_word (c ∷ x) (d ∷ y) v w p q e =
    let first = first_of c d (x ++ 32 ∷ v) (y ++ 32 ∷ w) e in
    let more = last_word x y v w p q (rest_of c d (x ++ 32 ∷ v) (y ++ 32 ∷ w) e) in
    ((λ i. first i ∷ more.0 i), more.1)

hole_solid : (o : Option Addr) → Unbroken (field_text (field_or (codes "-") address_field o))
hole_solid None = (refl, tt)
hole_solid (Some a) = solid_unbroken _ (address_text a.family a.value a.fits)

-- an address isn't a dash
no_dash : (t : List ℕ) → AllByRecursion IsSolid t → t ≡ codes "-" → ⊥
no_dash t solid e = let all : AllByRecursion IsSolid (codes "-") = subst (AllByRecursion IsSolid) e solid in all.0.1 refl

no_hole : (o : Option Addr) → field_text (field_or (codes "-") address_field o) ≡ codes "-" → o ≡ None
no_hole None e = refl
no_hole (Some a) e = absurd (no_dash _ (address_text a.family a.value a.fits) e)

-- a body with two fields more is the line of a router of version 1
pub told : (q : Router) (b : List ℕ) → q.max_comms < 2 ^ 32 → b ++ codes " - 0" ≡ router_text Two q → IsOfVersion One q × (b ≡ router_text One q)
told q b small e =
    let text : (b ++ codes " -") ++ 32 ∷ codes "0" ≡ (router_text One q ++ (32 ∷ field_text (hole q))) ++ 32 ∷ decimal q.max_comms =
    append_assoc b (codes " -") (32 ∷ codes "0") ∙ (e ∙ (two_is q ∙ sym (append_assoc (router_text One q) (32 ∷ field_text (hole q)) (32 ∷ decimal q.max_comms)))) in
    let last = last_word (b ++ codes " -") (router_text One q ++ (32 ∷ field_text (hole q))) (codes "0") (decimal q.max_comms) (refl, tt) (solid_unbroken _ (number_text q.max_comms small)) text in
    let first = last_word b (router_text One q) (codes "-") (field_text (hole q)) (refl, tt) (hole_solid q.blackhole) last.0 in
    ((no_hole q.blackhole (sym first.1), decimal_injective q.max_comms 0 (omega (arith, small)) (omega arith) (sym (zero_text ∙ last.1))), first.0)

-- of a line, the bound on communities is a number
pub small_bound : (q : Router) → IsLine Two (router_line Two q) → q.max_comms < 2 ^ 32
small_bound q (a, (b, (c, (d, (e, (f, (g, (h, (i, (j, (k, none))))))))))) = k
