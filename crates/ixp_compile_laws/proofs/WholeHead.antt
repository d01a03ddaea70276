-- The whole head fits, and leaves its names declared.
use Rattle.std.proofs.Common.{◌≡◌, ℕ, suc, Bool, true, false, not, nat_le, List, [], ◌∷◌, ◌++◌, codes, Option, Some, None, refl, sym, ap, subst}
use Rattle.std.specs.List.{list_all, list_any}
use Rattle.std.proofs.lemmas.Bool.{and_parts, and_from}
use Rattle.ixp_lang.specs.Trees.{ItemTree, StmtTrees, StmtTree, stmts, function_item, table_item, router_id_item, filter_item}
use Rattle.ixp_lang.specs.declared.item.Ty.TheVariants.{Int}
use Rattle.ixp_lang.specs.declared.value.SetLit.TheVariants as set
use Rattle.ixp_num.specs.declared.asn.Asn.{Asn}
use Rattle.ixp_num.specs.declared.addr.Addr.{Addr}
use Rattle.ixp_num.specs.declared.family.Family.{Family}
use Rattle.ixp_num.specs.declared.family.Family.TheVariants.{V4, V6}
use Rattle.ixp_num.specs.declared.pattern.Pattern.{Pattern}
use Rattle.ixp_lang_tokens.specs.Pieces.{same_word}
use Rattle.ixp_lang_exprs.specs.Names.{Names}
use Rattle.ixp_lang_exprs.specs.Declarations.{standing, is_free_in}
use Rattle.ixp_lang_exprs.specs.declared.types.ValueType.{ValueType}
use Rattle.ixp_lang_exprs.specs.declared.types.ValueType.TheVariants as type
use Rattle.ixp_lang_exprs.specs.declared.context.Scope.TheVariants as scope
use Rattle.ixp_lang_exprs.specs.declared.env.Declared.TheVariants.{Begun, Function, Filter, Table, Parameter}
use Rattle.ixp_read.specs.Functions.{as_written}
use Rattle.ixp_read.specs.Items.{unowned}
use Rattle.ixp_compile.specs.declared.inputs.HeaderInputs.{HeaderInputs}
use Rattle.ixp_lang.specs.declared.expr.Attr.TheVariants as attr
use Rattle.ixp_lang.specs.declared.expr.Op.TheVariants as op
use Rattle.ixp_lang.specs.Trees.{named}
use Rattle.ixp_compile.specs.Pieces.{when, compared, drop_with, defined, numbers, where_any, master, roas, table_kind, roa_kind}
use Rattle.ixp_compile.specs.Header.{identifier, bogons_of, joined_ranges, drop_body, blackhole_body, blackhole_function, net_body, bogon_as_body, transit_body, sends_body, count_body, pad_body, out_body, tables, public_sets, shared_functions, header}
use Rattle.ixp_lang_laws.specs.Sound.{is_lawful}
use Rattle.ixp_lang_laws.specs.SoundItems.{item_fits, inside}
use Rattle.ixp_lang_laws.specs.SoundStatements.{stmts_fit, returned_in}
use Rattle.ixp_compile_laws.proofs.Parts.{PartFits, part_of, no_part, fits_alone, returned_alone}
use Rattle.ixp_compile_laws.proofs.Import.{procedure, gives, a_set, IfAny}
use Rattle.ixp_compile_laws.proofs.Facts.{Facts, Known, apart, known_behind, known_front}
use Rattle.ixp_compile_laws.proofs.OtherFilters.{eq_self}
use Rattle.ixp_compile_laws.proofs.HeadFunctions.{drop_free_fits, count_fits, pad_fits, sends_fits}
use Rattle.ixp_compile_laws.proofs.FreeNames.{free_here, free_later, free_behind, one_param}
use Rattle.ixp_compile_laws.proofs.Session.{if_any, any_apart, bh_fact, bh_apart, apart_both, heads, plain_table}
use Rattle.ixp_compile_laws.proofs.HeadBodies.{IfHop, net_part, out_fits}
use Rattle.ixp_compile_laws.proofs.Stages.{Stage, Goes, then_goes, stays, is_plain, same_free, kept_free, declares, procedure_goes, set_goes}

-- A function of one parameter.

n_goes : (w : List ℕ) (body : StmtTrees) (r : Option ValueType) (todo known : Facts)
    → ((number : ℕ) (names : Names) → names w ≡ None → is_free_in (names (codes "n")) number ≡ true → item_fits number names (function_item w ((Int, codes "n") ∷ []) body) ≡ true)
    → ((number : ℕ) (names : Names) → (returned_in (inside number names w ((Int, codes "n") ∷ [])) (scope.Function number) (as_written None) body).ty ≡ r)
    → same_word w w ≡ true → same_word w (codes "n") ≡ false → is_plain w ≡ true → apart w todo ≡ true → apart w known ≡ true → apart (codes "n") todo ≡ true → apart (codes "n") known ≡ true
    → Goes (Stage ((w, None) ∷ todo) known) (function_item w ((Int, codes "n") ∷ []) body ∷ []) (Stage todo ((w, Some (Function (record { params = type.Int ∷ []; returns = r }))) ∷ known))
n_goes w body r todo known fit returns same other plain a b c d number names ((free, t), k, free_n, free_p) =
    let h : (not (same_word w (codes "n")) ≡ true) × (not (same_word w (codes "p")) ≡ true) = and_parts (not (same_word w (codes "n"))) (not (same_word w (codes "p"))) plain in (
      and_from (item_fits number names (function_item w ((Int, codes "n") ∷ []) body)) true (fit number names free (free_here number names (codes "n") free_n)) refl,
      (
        (one_param number names w (codes "n") body r todo t a c same (returns number names)).1,
        one_param number names w (codes "n") body r known k b d same (returns number names),
        free_behind number names w (codes "n") _ type.Int other refl,
        kept_free number (standing (standing names w Begun) (codes "n") (Parameter number type.Int)) w (codes "p") _ h.1 (same_free number (standing names w Begun) (codes "n") (codes "p") (Parameter number type.Int) refl (same_free number names w (codes "p") Begun h.1 free_p)),
      ),
    )

p_goes : (w : List ℕ) (body : StmtTrees) (r : Option ValueType) (todo known : Facts)
    → ((number : ℕ) (names : Names) → names w ≡ None → is_free_in (names (codes "p")) number ≡ true → item_fits number names (function_item w ((Int, codes "p") ∷ []) body) ≡ true)
    → ((number : ℕ) (names : Names) → (returned_in (inside number names w ((Int, codes "p") ∷ [])) (scope.Function number) (as_written None) body).ty ≡ r)
    → same_word w w ≡ true → same_word w (codes "p") ≡ false → is_plain w ≡ true → apart w todo ≡ true → apart w known ≡ true → apart (codes "p") todo ≡ true → apart (codes "p") known ≡ true
    → Goes (Stage ((w, None) ∷ todo) known) (function_item w ((Int, codes "p") ∷ []) body ∷ []) (Stage todo ((w, Some (Function (record { params = type.Int ∷ []; returns = r }))) ∷ known))
p_goes w body r todo known fit returns same other plain a b c d number names ((free, t), k, free_n, free_p) =
    let h : (not (same_word w (codes "n")) ≡ true) × (not (same_word w (codes "p")) ≡ true) = and_parts (not (same_word w (codes "n"))) (not (same_word w (codes "p"))) plain in (
      and_from (item_fits number names (function_item w ((Int, codes "p") ∷ []) body)) true (fit number names free (free_here number names (codes "p") free_p)) refl,
      (
        (one_param number names w (codes "p") body r todo t a c same (returns number names)).1,
        one_param number names w (codes "p") body r known k b d same (returns number names),
        kept_free number (standing (standing names w Begun) (codes "p") (Parameter number type.Int)) w (codes "n") _ h.0 (same_free number (standing names w Begun) (codes "p") (codes "n") (Parameter number type.Int) refl (same_free number names w (codes "n") Begun h.0 free_n)),
        free_behind number names w (codes "p") _ type.Int other refl,
      ),
    )

blackhole_fits : (f : Family) (number : ℕ) (names : Names) → (stmts_fit names (scope.Function number) 63 (as_written None) (stmts (blackhole_body f)) ≡ true) × ((returned_in names (scope.Function number) (as_written None) (stmts (blackhole_body f))).ty ≡ Some type.Bool)
blackhole_fits f number names = (refl, refl)

sends_returns : (number rs : ℕ) (names : Names) (b : Bool) → nat_le rs 65535 ≡ b → (returned_in (inside number names (codes "ixp_sends") ((Int, codes "p") ∷ [])) (scope.Function number) (as_written None) (stmts (sends_body rs))).ty ≡ Some type.Bool
sends_returns number rs names true e = rw e refl
sends_returns number rs names false e = rw e refl

abbrev pub head_words : List (List ℕ)
head_words =
    codes "master4" ∷ codes "master6" ∷ codes "roas4" ∷ codes "roas6" ∷ codes "ixp_bogons" ∷ codes "ixp_bogon_as" ∷ codes "ixp_transit_as" ∷ codes "ixp_drop" ∷ codes "ixp_bh" ∷ codes "ixp_net" ∷ codes "ixp_as"
    ∷ codes "ixp_transit" ∷ codes "ixp_sends" ∷ codes "ixp_count" ∷ codes "ixp_pad" ∷ codes "ixp_out" ∷ codes "n" ∷ codes "p" ∷ []

abbrev pub is_head : List ℕ → Bool
is_head w = list_any (same_word w) head_words

by_two : (w : List ℕ) → apart w ((roas V4, plain_table true) ∷ (master V4, plain_table false) ∷ []) ≡ true → apart w ((roas V6, plain_table true) ∷ (master V6, plain_table false) ∷ []) ≡ true
    → (f : Family) → apart w ((roas f, plain_table true) ∷ (master f, plain_table false) ∷ []) ≡ true
by_two w four six V4 = four
by_two w four six V6 = six

module _ (h : HeaderInputs) (later : Facts) (far : (w : List ℕ) → is_head w ≡ true → apart w later ≡ true) (lawful : list_all is_lawful (bogons_of h) ≡ true) where
  abbrev pub f : Family
  f = h.router.family

  abbrev pub b : Option Addr
  b = h.router.blackhole

  abbrev pub rs : ℕ
  rs = h.router.asn.0

  abbrev pub out_todo : Facts
  out_todo = (codes "ixp_out", None) ∷ later

  abbrev pub sends_todo : Facts
  sends_todo = (codes "ixp_sends", None) ∷ (codes "ixp_count", None) ∷ (codes "ixp_pad", None) ∷ out_todo

  abbrev pub net_todo : Facts
  net_todo = (codes "ixp_net", None) ∷ (codes "ixp_as", None) ∷ (codes "ixp_transit", None) ∷ sends_todo

  abbrev pub drop_todo : Facts
  drop_todo = (codes "ixp_drop", None) ∷ (codes "ixp_bh", None) ∷ net_todo

  abbrev pub sets_todo : Facts
  sets_todo = (codes "ixp_bogons", None) ∷ (codes "ixp_bogon_as", None) ∷ (codes "ixp_transit_as", None) ∷ drop_todo

  abbrev pub table_known : Facts
  table_known = (roas f, plain_table true) ∷ (master f, plain_table false) ∷ []

  abbrev pub sets_known : Facts
  sets_known = if_any h.transit (codes "ixp_transit_as") type.IntSet ++ (if_any (joined_ranges h.bogon_as) (codes "ixp_bogon_as") type.IntSet ++ (if_any (bogons_of h) (codes "ixp_bogons") type.PrefixSet ++ table_known))

  abbrev pub bh_known : Facts
  bh_known = bh_fact b ++ ((codes "ixp_drop", procedure (type.Int ∷ [])) ∷ sets_known)

  sets_apart : (w : List ℕ) → not (same_word w (codes "ixp_transit_as")) ≡ true → not (same_word w (codes "ixp_bogon_as")) ≡ true → not (same_word w (codes "ixp_bogons")) ≡ true
      → apart w ((roas V4, plain_table true) ∷ (master V4, plain_table false) ∷ []) ≡ true → apart w ((roas V6, plain_table true) ∷ (master V6, plain_table false) ∷ []) ≡ true → apart w sets_known ≡ true
  sets_apart w e1 e2 e3 four six =
      apart_both w (if_any h.transit (codes "ixp_transit_as") type.IntSet) _ (any_apart h.transit w (codes "ixp_transit_as") type.IntSet e1)
      (apart_both w (if_any (joined_ranges h.bogon_as) (codes "ixp_bogon_as") type.IntSet) _ (any_apart (joined_ranges h.bogon_as) w (codes "ixp_bogon_as") type.IntSet e2)
      (apart_both w (if_any (bogons_of h) (codes "ixp_bogons") type.PrefixSet) table_known (any_apart (bogons_of h) w (codes "ixp_bogons") type.PrefixSet e3) (by_two w four six f)))

  bh_apart_known : (w : List ℕ) → not (same_word w (codes "ixp_bh")) ≡ true → not (same_word w (codes "ixp_drop")) ≡ true → apart w sets_known ≡ true → apart w bh_known ≡ true
  bh_apart_known w e1 e2 e3 = apart_both w (bh_fact b) ((codes "ixp_drop", procedure (type.Int ∷ [])) ∷ sets_known) (bh_apart w e1 b) (and_from _ _ e2 e3)

  -- what the bodies of the head need
  hop : (names : Names) (number : ℕ) → (o : Option Addr) → Known names (bh_fact o) → IfHop names number o
  hop names number None k = tt
  hop names number (Some a) k = k.0

  any_there : {X : Type 0} (xs : List X) (name : List ℕ) (t : ValueType) (names : Names) → Known names (if_any xs name t) → IfAny xs (names name ≡ a_set t)
  any_there [] name t names k = tt
  any_there (x ∷ xs) name t names k = k.0

  net_body_fits : (number : ℕ) (names : Names) → Known names bh_known → PartFits names (scope.Function number) 63 (net_body h)
  net_body_fits number names k =
      (let g = known_front names (bh_fact b) ((codes "ixp_drop", procedure (type.Int ∷ [])) ∷ sets_known) k in
      let e = known_front names (if_any h.transit (codes "ixp_transit_as") type.IntSet) (if_any (joined_ranges h.bogon_as) (codes "ixp_bogon_as") type.IntSet ++ (if_any (bogons_of h) (codes "ixp_bogons") type.PrefixSet ++ table_known)) g.1.1 in
      let d = known_front names (if_any (joined_ranges h.bogon_as) (codes "ixp_bogon_as") type.IntSet) (if_any (bogons_of h) (codes "ixp_bogons") type.PrefixSet ++ table_known) e.1 in
      let c = known_front names (if_any (bogons_of h) (codes "ixp_bogons") type.PrefixSet) table_known d.1 in
      net_part names number h g.1.0 (hop names number b g.0) (any_there (bogons_of h) (codes "ixp_bogons") type.PrefixSet names c.0))

  net_goes : Goes (Stage net_todo bh_known) (function_item (codes "ixp_net") [] (stmts (net_body h)) ∷ []) (Stage ((codes "ixp_as", None) ∷ (codes "ixp_transit", None) ∷ sends_todo) ((codes "ixp_net", procedure []) ∷ bh_known))
  net_goes = procedure_goes (codes "ixp_net") (stmts (net_body h)) None ((codes "ixp_as", None) ∷ (codes "ixp_transit", None) ∷ sends_todo) bh_known
      (λ number names k. (fits_alone names (scope.Function number) 63 (net_body h) (as_written None) (net_body_fits number names k), ap (λ (r : Rattle.ixp_lang_stmts.specs.Statements.Returned). r.ty) (returned_alone names (scope.Function number) 63 (net_body h) (as_written None) (net_body_fits number names k))))
      refl refl (rw (far (codes "ixp_net") refl) refl) (bh_apart_known (codes "ixp_net") refl refl (sets_apart (codes "ixp_net") refl refl refl refl refl))

  sends_goes : Goes (Stage sends_todo ((codes "ixp_transit", procedure []) ∷ (codes "ixp_as", procedure []) ∷ (codes "ixp_net", procedure []) ∷ bh_known)) (function_item (codes "ixp_sends") ((Int, codes "p") ∷ []) (stmts (sends_body rs)) ∷ [])
      (Stage ((codes "ixp_count", None) ∷ (codes "ixp_pad", None) ∷ out_todo) ((codes "ixp_sends", gives (type.Int ∷ []) type.Bool) ∷ (codes "ixp_transit", procedure []) ∷ (codes "ixp_as", procedure []) ∷ (codes "ixp_net", procedure []) ∷ bh_known))
  sends_goes = p_goes (codes "ixp_sends") (stmts (sends_body rs)) (Some type.Bool) ((codes "ixp_count", None) ∷ (codes "ixp_pad", None) ∷ out_todo) ((codes "ixp_transit", procedure []) ∷ (codes "ixp_as", procedure []) ∷ (codes "ixp_net", procedure []) ∷ bh_known)
      (λ number names free p. sends_fits number rs names free p (eq_self number) (nat_le rs 65535) refl) (λ number names. sends_returns number rs names (nat_le rs 65535) refl)
      refl refl refl (rw (far (codes "ixp_sends") refl) refl) (rw (bh_apart_known (codes "ixp_sends") refl refl (sets_apart (codes "ixp_sends") refl refl refl refl refl)) refl) (rw (far (codes "p") refl) refl) (rw (bh_apart_known (codes "p") refl refl (sets_apart (codes "p") refl refl refl refl refl)) refl)

  -- bodies of one test
  as_part : (names : Names) (number : ℕ) (xs : List (ℕ × ℕ)) → names (codes "ixp_drop") ≡ procedure (type.Int ∷ []) → IfAny xs (names (codes "ixp_bogon_as") ≡ a_set type.IntSet) → PartFits names (scope.Function number) 63 (where_any xs (when (compared op.In attr.Path (named (codes "ixp_bogon_as"))) (drop_with 4 ∷ []) ∷ []))
  as_part names number [] drop k = no_part names (scope.Function number) 63
  as_part names number (x ∷ xs) drop k = part_of names (scope.Function number) 63 _ (λ r. (rw (k, drop) refl, refl))

  transit_part : (names : Names) (number : ℕ) (xs : List Asn) → names (codes "ixp_drop") ≡ procedure (type.Int ∷ []) → IfAny xs (names (codes "ixp_transit_as") ≡ a_set type.IntSet) → PartFits names (scope.Function number) 63 (where_any xs (when (compared op.In attr.Path (named (codes "ixp_transit_as"))) (drop_with 14 ∷ []) ∷ []))
  transit_part names number [] drop k = no_part names (scope.Function number) 63
  transit_part names number (x ∷ xs) drop k = part_of names (scope.Function number) 63 _ (λ r. (rw (k, drop) refl, refl))

  as_fits : (number : ℕ) (names : Names) → Known names ((codes "ixp_net", procedure []) ∷ bh_known) → PartFits names (scope.Function number) 63 (bogon_as_body h)
  as_fits number names (net, k) =
      (let g = known_front names (bh_fact b) ((codes "ixp_drop", procedure (type.Int ∷ [])) ∷ sets_known) k in
      let e = known_front names (if_any h.transit (codes "ixp_transit_as") type.IntSet) (if_any (joined_ranges h.bogon_as) (codes "ixp_bogon_as") type.IntSet ++ (if_any (bogons_of h) (codes "ixp_bogons") type.PrefixSet ++ table_known)) g.1.1 in
      let d = known_front names (if_any (joined_ranges h.bogon_as) (codes "ixp_bogon_as") type.IntSet) (if_any (bogons_of h) (codes "ixp_bogons") type.PrefixSet ++ table_known) e.1 in
      as_part names number (joined_ranges h.bogon_as) g.1.0 (any_there (joined_ranges h.bogon_as) (codes "ixp_bogon_as") type.IntSet names d.0))

  transit_fits : (number : ℕ) (names : Names) → Known names ((codes "ixp_as", procedure []) ∷ (codes "ixp_net", procedure []) ∷ bh_known) → PartFits names (scope.Function number) 63 (transit_body h)
  transit_fits number names (as_, (net, k)) =
      (let g = known_front names (bh_fact b) ((codes "ixp_drop", procedure (type.Int ∷ [])) ∷ sets_known) k in
      let e = known_front names (if_any h.transit (codes "ixp_transit_as") type.IntSet) (if_any (joined_ranges h.bogon_as) (codes "ixp_bogon_as") type.IntSet ++ (if_any (bogons_of h) (codes "ixp_bogons") type.PrefixSet ++ table_known)) g.1.1 in
      transit_part names number h.transit g.1.0 (any_there h.transit (codes "ixp_transit_as") type.IntSet names e.0))

  by_part : (known : Facts) (body : List StmtTree) → ((number : ℕ) (names : Names) → Known names known → PartFits names (scope.Function number) 63 body) → (number : ℕ) (names : Names) → Known names known
      → (stmts_fit names (scope.Function number) 63 (as_written None) (stmts body) ≡ true) × ((returned_in names (scope.Function number) (as_written None) (stmts body)).ty ≡ None)
  by_part known body fit number names k = (fits_alone names (scope.Function number) 63 body (as_written None) (fit number names k), ap (λ (r : Rattle.ixp_lang_stmts.specs.Statements.Returned). r.ty) (returned_alone names (scope.Function number) 63 body (as_written None) (fit number names k)))

  abbrev pub net_known : Facts
  net_known = (codes "ixp_net", procedure []) ∷ bh_known

  abbrev pub as_known : Facts
  as_known = (codes "ixp_as", procedure []) ∷ net_known

  abbrev pub transit_known : Facts
  transit_known = (codes "ixp_transit", procedure []) ∷ as_known

  abbrev pub sends_known : Facts
  sends_known = (codes "ixp_sends", gives (type.Int ∷ []) type.Bool) ∷ transit_known

  abbrev pub count_known : Facts
  count_known = (codes "ixp_count", gives (type.Int ∷ []) type.Int) ∷ sends_known

  abbrev pub pad_known : Facts
  pad_known = (codes "ixp_pad", procedure (type.Int ∷ [])) ∷ count_known

  as_goes : Goes (Stage ((codes "ixp_as", None) ∷ (codes "ixp_transit", None) ∷ sends_todo) net_known) (function_item (codes "ixp_as") [] (stmts (bogon_as_body h)) ∷ []) (Stage ((codes "ixp_transit", None) ∷ sends_todo) as_known)
  as_goes = procedure_goes (codes "ixp_as") (stmts (bogon_as_body h)) None ((codes "ixp_transit", None) ∷ sends_todo) net_known (by_part net_known (bogon_as_body h) as_fits)
      refl refl (rw (far (codes "ixp_as") refl) refl) (rw (bh_apart_known (codes "ixp_as") refl refl (sets_apart (codes "ixp_as") refl refl refl refl refl)) refl)

  transit_goes : Goes (Stage ((codes "ixp_transit", None) ∷ sends_todo) as_known) (function_item (codes "ixp_transit") [] (stmts (transit_body h)) ∷ []) (Stage sends_todo transit_known)
  transit_goes = procedure_goes (codes "ixp_transit") (stmts (transit_body h)) None sends_todo as_known (by_part as_known (transit_body h) transit_fits)
      refl refl (rw (far (codes "ixp_transit") refl) refl) (rw (bh_apart_known (codes "ixp_transit") refl refl (sets_apart (codes "ixp_transit") refl refl refl refl refl)) refl)

  count_goes : Goes (Stage ((codes "ixp_count", None) ∷ (codes "ixp_pad", None) ∷ out_todo) sends_known) (function_item (codes "ixp_count") ((Int, codes "p") ∷ []) (stmts (count_body rs)) ∷ []) (Stage ((codes "ixp_pad", None) ∷ out_todo) count_known)
  count_goes = p_goes (codes "ixp_count") (stmts (count_body rs)) (Some type.Int) ((codes "ixp_pad", None) ∷ out_todo) sends_known
      (λ number names free p. count_fits number rs names free p (eq_self number)) (λ number names. refl)
      refl refl refl (rw (far (codes "ixp_count") refl) refl) (rw (bh_apart_known (codes "ixp_count") refl refl (sets_apart (codes "ixp_count") refl refl refl refl refl)) refl) (rw (far (codes "p") refl) refl) (rw (bh_apart_known (codes "p") refl refl (sets_apart (codes "p") refl refl refl refl refl)) refl)

  pad_goes : Goes (Stage ((codes "ixp_pad", None) ∷ out_todo) count_known) (function_item (codes "ixp_pad") ((Int, codes "n") ∷ []) (stmts pad_body) ∷ []) (Stage out_todo pad_known)
  pad_goes = n_goes (codes "ixp_pad") (stmts pad_body) None out_todo count_known
      (λ number names free n. pad_fits number names free n (eq_self number)) (λ number names. refl)
      refl refl refl (rw (far (codes "ixp_pad") refl) refl) (rw (bh_apart_known (codes "ixp_pad") refl refl (sets_apart (codes "ixp_pad") refl refl refl refl refl)) refl) (rw (far (codes "n") refl) refl) (rw (bh_apart_known (codes "n") refl refl (sets_apart (codes "n") refl refl refl refl refl)) refl)

  out_goes : Goes (Stage out_todo pad_known) (filter_item (codes "ixp_out") (stmts (out_body rs b)) ∷ []) (Stage later ((codes "ixp_out", Some Filter) ∷ pad_known))
  out_goes = declares (codes "ixp_out") Filter (filter_item (codes "ixp_out") (stmts (out_body rs b))) later pad_known
      (λ number names free (pad, (count, (sends, (transit, (as_, (net, k)))))). out_fits number names rs b free (hop names number b (known_front names (bh_fact b) ((codes "ixp_drop", procedure (type.Int ∷ [])) ∷ sets_known) k).0)) (λ number names. refl)
      refl refl (far (codes "ixp_out") refl) (rw (bh_apart_known (codes "ixp_out") refl refl (sets_apart (codes "ixp_out") refl refl refl refl refl)) refl)

  drop_goes : Goes (Stage drop_todo sets_known) (function_item (codes "ixp_drop") ((Int, codes "n") ∷ []) (stmts (drop_body rs)) ∷ []) (Stage ((codes "ixp_bh", None) ∷ net_todo) ((codes "ixp_drop", procedure (type.Int ∷ [])) ∷ sets_known))
  drop_goes = n_goes (codes "ixp_drop") (stmts (drop_body rs)) None ((codes "ixp_bh", None) ∷ net_todo) sets_known
      (λ number names free n. drop_free_fits number rs names free n (eq_self number)) (λ number names. refl)
      refl refl refl (rw (far (codes "ixp_drop") refl) refl) (sets_apart (codes "ixp_drop") refl refl refl refl refl) (rw (far (codes "n") refl) refl) (sets_apart (codes "n") refl refl refl refl refl)

  bh_goes : (o : Option Addr) → Goes (Stage ((codes "ixp_bh", None) ∷ net_todo) ((codes "ixp_drop", procedure (type.Int ∷ [])) ∷ sets_known)) (blackhole_function f o) (Stage net_todo (bh_fact o ++ ((codes "ixp_drop", procedure (type.Int ∷ [])) ∷ sets_known)))
  bh_goes None = λ number names ((free, t), k, free_n, free_p). (refl, (t, k, free_n, free_p))
  bh_goes (Some a) = procedure_goes (codes "ixp_bh") (stmts (blackhole_body f)) (Some type.Bool) net_todo ((codes "ixp_drop", procedure (type.Int ∷ [])) ∷ sets_known) (λ number names k. blackhole_fits f number names)
      refl refl (rw (far (codes "ixp_bh") refl) refl) (rw (sets_apart (codes "ixp_bh") refl refl refl refl refl) refl)

  -- The tables and the sets.

  tables_go : (g : Family) (a : Addr) → Rattle.ixp_lang_laws.specs.SoundItems.is_v4 a.family ≡ true → Goes (Stage ((master g, None) ∷ (roas g, None) ∷ sets_todo) []) (router_id_item a ∷ table_item (table_kind g) (master g) ∷ table_item (roa_kind g) (roas g) ∷ [])
      (Stage sets_todo ((roas g, plain_table true) ∷ (master g, plain_table false) ∷ []))
  tables_go V4 a four number names ((m, (r, t)), k, free_n, free_p) = (
    rw (four, m, r) refl,
    (
      known_behind (standing names (master V4) (Table (unowned (table_kind V4)))) (roas V4) (Table (unowned (roa_kind V4))) sets_todo (rw (far (codes "roas4") refl) refl) (known_behind names (master V4) (Table (unowned (table_kind V4))) sets_todo (rw (far (codes "master4") refl) refl) t),
      (refl, (refl, tt)),
      free_later (suc (suc number)) names (codes "n") (free_later (suc number) names (codes "n") (free_later number names (codes "n") free_n)),
      free_later (suc (suc number)) names (codes "p") (free_later (suc number) names (codes "p") (free_later number names (codes "p") free_p)),
    ),
  )
  tables_go V6 a four number names ((m, (r, t)), k, free_n, free_p) = (
    rw (four, m, r) refl,
    (
      known_behind (standing names (master V6) (Table (unowned (table_kind V6)))) (roas V6) (Table (unowned (roa_kind V6))) sets_todo (rw (far (codes "roas6") refl) refl) (known_behind names (master V6) (Table (unowned (table_kind V6))) sets_todo (rw (far (codes "master6") refl) refl) t),
      (refl, (refl, tt)),
      free_later (suc (suc number)) names (codes "n") (free_later (suc number) names (codes "n") (free_later number names (codes "n") free_n)),
      free_later (suc (suc number)) names (codes "p") (free_later (suc number) names (codes "p") (free_later number names (codes "p") free_p)),
    ),
  )

  lawful_of : (all : List Pattern) → list_all is_lawful all ≡ true → (x : Pattern) (ys : List Pattern) → x ∷ ys ≡ all → Rattle.ixp_lang_laws.specs.Sound.set_fits 64 (set.Prefixes (x ∷ ys)) ≡ true
  lawful_of all ok x ys same = subst (λ zs. list_all is_lawful zs ≡ true) (sym same) ok

  abbrev pub bogons_known : Facts
  bogons_known = if_any (bogons_of h) (codes "ixp_bogons") type.PrefixSet ++ table_known

  abbrev pub as_sets : Facts
  as_sets = if_any (joined_ranges h.bogon_as) (codes "ixp_bogon_as") type.IntSet ++ bogons_known

  bogons_go : Goes (Stage sets_todo table_known) (defined (codes "ixp_bogons") set.Prefixes (bogons_of h)) (Stage ((codes "ixp_bogon_as", None) ∷ (codes "ixp_transit_as", None) ∷ drop_todo) bogons_known)
  bogons_go = set_goes (codes "ixp_bogons") set.Prefixes type.PrefixSet (bogons_of h) ((codes "ixp_bogon_as", None) ∷ (codes "ixp_transit_as", None) ∷ drop_todo) table_known (λ ys. refl) (lawful_of (bogons_of h) lawful) refl refl (rw (far (codes "ixp_bogons") refl) refl) (by_two (codes "ixp_bogons") refl refl f)

  bogon_as_go : Goes (Stage ((codes "ixp_bogon_as", None) ∷ (codes "ixp_transit_as", None) ∷ drop_todo) bogons_known) (defined (codes "ixp_bogon_as") set.Ints (joined_ranges h.bogon_as)) (Stage ((codes "ixp_transit_as", None) ∷ drop_todo) as_sets)
  bogon_as_go = set_goes (codes "ixp_bogon_as") set.Ints type.IntSet (joined_ranges h.bogon_as) ((codes "ixp_transit_as", None) ∷ drop_todo) bogons_known (λ ys. refl) (λ x ys same. refl) refl refl (rw (far (codes "ixp_bogon_as") refl) refl)
      (apart_both (codes "ixp_bogon_as") (if_any (bogons_of h) (codes "ixp_bogons") type.PrefixSet) table_known (any_apart (bogons_of h) (codes "ixp_bogon_as") (codes "ixp_bogons") type.PrefixSet refl) (by_two (codes "ixp_bogon_as") refl refl f))

  transit_as_go : Goes (Stage ((codes "ixp_transit_as", None) ∷ drop_todo) as_sets) (defined (codes "ixp_transit_as") numbers h.transit) (Stage drop_todo sets_known)
  transit_as_go = set_goes (codes "ixp_transit_as") numbers type.IntSet h.transit drop_todo as_sets (λ ys. refl) (λ x ys same. refl) refl refl (rw (far (codes "ixp_transit_as") refl) refl)
      (apart_both (codes "ixp_transit_as") (if_any (joined_ranges h.bogon_as) (codes "ixp_bogon_as") type.IntSet) bogons_known (any_apart (joined_ranges h.bogon_as) (codes "ixp_transit_as") (codes "ixp_bogon_as") type.IntSet refl)
      (apart_both (codes "ixp_transit_as") (if_any (bogons_of h) (codes "ixp_bogons") type.PrefixSet) table_known (any_apart (bogons_of h) (codes "ixp_transit_as") (codes "ixp_bogons") type.PrefixSet refl) (by_two (codes "ixp_transit_as") refl refl f)))

  sets_go : Goes (Stage sets_todo table_known) (public_sets h) (Stage drop_todo sets_known)
  sets_go =
      then_goes (Stage sets_todo table_known) (Stage ((codes "ixp_bogon_as", None) ∷ (codes "ixp_transit_as", None) ∷ drop_todo) bogons_known) (Stage drop_todo sets_known) (defined (codes "ixp_bogons") set.Prefixes (bogons_of h)) (defined (codes "ixp_bogon_as") set.Ints (joined_ranges h.bogon_as) ++ (defined (codes "ixp_transit_as") numbers h.transit ++ [])) bogons_go
      (then_goes (Stage ((codes "ixp_bogon_as", None) ∷ (codes "ixp_transit_as", None) ∷ drop_todo) bogons_known) (Stage ((codes "ixp_transit_as", None) ∷ drop_todo) as_sets) (Stage drop_todo sets_known) (defined (codes "ixp_bogon_as") set.Ints (joined_ranges h.bogon_as)) (defined (codes "ixp_transit_as") numbers h.transit ++ []) bogon_as_go
      (then_goes (Stage ((codes "ixp_transit_as", None) ∷ drop_todo) as_sets) (Stage drop_todo sets_known) (Stage drop_todo sets_known) (defined (codes "ixp_transit_as") numbers h.transit) [] transit_as_go (stays (Stage drop_todo sets_known))))

  abbrev pub net_item : ItemTree
  net_item = function_item (codes "ixp_net") [] (stmts (net_body h))

  abbrev pub as_item : ItemTree
  as_item = function_item (codes "ixp_as") [] (stmts (bogon_as_body h))

  abbrev pub transit_item : ItemTree
  transit_item = function_item (codes "ixp_transit") [] (stmts (transit_body h))

  abbrev pub sends_item : ItemTree
  sends_item = function_item (codes "ixp_sends") ((Int, codes "p") ∷ []) (stmts (sends_body rs))

  abbrev pub count_item : ItemTree
  count_item = function_item (codes "ixp_count") ((Int, codes "p") ∷ []) (stmts (count_body rs))

  abbrev pub pad_item : ItemTree
  pad_item = function_item (codes "ixp_pad") ((Int, codes "n") ∷ []) (stmts pad_body)

  abbrev pub out_item : ItemTree
  out_item = filter_item (codes "ixp_out") (stmts (out_body rs b))

  abbrev pub Last : ℕ → Names → Type 0
  Last = Stage later ((codes "ixp_out", Some Filter) ∷ pad_known)

  functions_go : Goes (Stage drop_todo sets_known) (shared_functions h) Last
  functions_go =
      then_goes (Stage drop_todo sets_known) (Stage ((codes "ixp_bh", None) ∷ net_todo) ((codes "ixp_drop", procedure (type.Int ∷ [])) ∷ sets_known)) Last (function_item (codes "ixp_drop") ((Int, codes "n") ∷ []) (stmts (drop_body rs)) ∷ [])
      (blackhole_function f b ++ (net_item ∷ as_item ∷ transit_item ∷ sends_item ∷ count_item ∷ pad_item ∷ out_item ∷ [])) drop_goes
      (then_goes (Stage ((codes "ixp_bh", None) ∷ net_todo) ((codes "ixp_drop", procedure (type.Int ∷ [])) ∷ sets_known)) (Stage net_todo bh_known) Last (blackhole_function f b) (net_item ∷ as_item ∷ transit_item ∷ sends_item ∷ count_item ∷ pad_item ∷ out_item ∷ []) (bh_goes b)
      (then_goes (Stage net_todo bh_known) (Stage ((codes "ixp_as", None) ∷ (codes "ixp_transit", None) ∷ sends_todo) net_known) Last (net_item ∷ []) (as_item ∷ transit_item ∷ sends_item ∷ count_item ∷ pad_item ∷ out_item ∷ []) net_goes
      (then_goes (Stage ((codes "ixp_as", None) ∷ (codes "ixp_transit", None) ∷ sends_todo) net_known) (Stage ((codes "ixp_transit", None) ∷ sends_todo) as_known) Last (as_item ∷ []) (transit_item ∷ sends_item ∷ count_item ∷ pad_item ∷ out_item ∷ []) as_goes
      (then_goes (Stage ((codes "ixp_transit", None) ∷ sends_todo) as_known) (Stage sends_todo transit_known) Last (transit_item ∷ []) (sends_item ∷ count_item ∷ pad_item ∷ out_item ∷ []) transit_goes
      (then_goes (Stage sends_todo transit_known) (Stage ((codes "ixp_count", None) ∷ (codes "ixp_pad", None) ∷ out_todo) sends_known) Last (sends_item ∷ []) (count_item ∷ pad_item ∷ out_item ∷ []) sends_goes
      (then_goes (Stage ((codes "ixp_count", None) ∷ (codes "ixp_pad", None) ∷ out_todo) sends_known) (Stage ((codes "ixp_pad", None) ∷ out_todo) count_known) Last (count_item ∷ []) (pad_item ∷ out_item ∷ []) count_goes
      (then_goes (Stage ((codes "ixp_pad", None) ∷ out_todo) count_known) (Stage out_todo pad_known) Last (pad_item ∷ []) (out_item ∷ []) pad_goes out_goes)))))))

  pub header_goes : Goes (Stage ((master f, None) ∷ (roas f, None) ∷ sets_todo) []) (header h) Last
  header_goes =
      then_goes (Stage ((master f, None) ∷ (roas f, None) ∷ sets_todo) []) (Stage sets_todo table_known) Last (tables h.router) (public_sets h ++ (shared_functions h ++ [])) (tables_go f (identifier h.router.id) refl)
      (then_goes (Stage sets_todo table_known) (Stage drop_todo sets_known) Last (public_sets h) (shared_functions h ++ []) sets_go
      (then_goes (Stage drop_todo sets_known) Last Last (shared_functions h) [] functions_go (stays Last)))

  pub heads_known : (number : ℕ) (names : Names) → Last number names → Known names later × Known names (heads f b)
  heads_known number names (l, (out, (pad, (count, (sends, (transit, (as_, (net, k))))))), free_n, free_p) =
      (let g = known_front names (bh_fact b) ((codes "ixp_drop", procedure (type.Int ∷ [])) ∷ sets_known) k in
      let e = known_front names (if_any h.transit (codes "ixp_transit_as") type.IntSet) as_sets g.1.1 in
      let d = known_front names (if_any (joined_ranges h.bogon_as) (codes "ixp_bogon_as") type.IntSet) bogons_known e.1 in
      let c = known_front names (if_any (bogons_of h) (codes "ixp_bogons") type.PrefixSet) table_known d.1 in
      (l, (g.1.0, (net, (as_, (transit, (sends, (count, (pad, (out, (c.1.0, (c.1.1.0, g.0))))))))))))
