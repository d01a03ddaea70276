-- The functions that are asked have their forms in a session's own text.
use Rattle.std.proofs.Common.{◌≡◌, ℕ, Bool, true, false, List, [], ◌∷◌, ◌++◌, append_assoc, append-nil, Option, Some, None, Ok, Err, codes, refl, ap, ◌∙◌, if◌then◌else◌}
use Rattle.std.specs.List.{AllByRecursion}
use Rattle.ixp_num.specs.declared.addr.Addr.{Addr}
use Rattle.ixp_num.specs.declared.family.Family.{Family}
use Rattle.ixp_num.specs.declared.family.Family.TheVariants.{V4, V6}
use Rattle.ixp_lang.specs.declared.item.Ty.TheVariants.{Int}
use Rattle.ixp_lang.specs.declared.value.SetLit.{SetLit}
use Rattle.ixp_lang.specs.declared.value.SetLit.TheVariants as set
use Rattle.ixp_lang.specs.Meaning.{find_named, same_name}
use Rattle.ixp_lang.specs.Trees.{ItemTree, function_item, filter_item, stmts}
use Rattle.ixp_registry.specs.declared.registry.Registry.{Registry}
use Rattle.ixp_registry.specs.declared.router.Router.{Router}
use Rattle.ixp_registry.specs.Sessions.{Session}
use Rattle.ixp_compile.specs.declared.inputs.HeaderInputs.{HeaderInputs}
use Rattle.ixp_compile.specs.Generated.{header_inputs, inputs, session_part, footer, own_part}
use Rattle.ixp_compile.specs.Header.{header, tables, public_sets, bogons_of, joined_ranges, blackhole_function, drop_body, net_body, bogon_as_body, transit_body, sends_body, count_body, pad_body, out_body}
use Rattle.ixp_compile.specs.Pieces.{defined, numbers, master, roas}
use Rattle.ixp_compile.proofs.Laying.{all_append}
use Rattle.ixp_explain.specs.declared.kinds.Kind.TheVariants.{Number, Truth}
use Rattle.ixp_explain.specs.declared.kinds.Sort.{Sort}
use Rattle.ixp_explain.specs.declared.kinds.Sort.TheVariants.{Function}
use Rattle.ixp_explain.specs.Explained.{sends_name, count_name, shapes_told, misshapen}
use Rattle.ixp_explain.specs.Kinds.{Sorts, declared_by, is_shaped, sorts_after}

-- Names that are looked for among what items declare.

one_more : (S T : Sorts) (n m : List ℕ) (x y : Sort) → find_named S n ≡ Some x → find_named (S ++ T) n ≡ Some x
one_more S T n m x y e = there S e where
  by_first : (b : Bool) (z : Sort) (S T : Sorts) → (find_named S n ≡ Some x → find_named (S ++ T) n ≡ Some x)
      → (if b then Some z else find_named S n) ≡ Some x → (if b then Some z else find_named (S ++ T) n) ≡ Some x
  by_first true z S T rest e = e
  by_first false z S T rest e = rest e

  there : (S : Sorts) → find_named S n ≡ Some x → find_named (S ++ T) n ≡ Some x
  there [] e = absurd (let bad : ⊥ = cc in bad)
  there (s ∷ S) e = by_first (same_name s.0 n) s.1 S T (there S) e

-- what is found stays
stays : (n : List ℕ) (x : Sort) (S : Sorts) (is : List ItemTree) → find_named S n ≡ Some x → find_named (sorts_after S is) n ≡ Some x
stays n x S [] e = e
stays n x S (i ∷ is) e = stays n x (S ++ declared_by S i) is (one_more S (declared_by S i) n n x x e)

-- the item has another name
abbrev pub Apart : List ℕ → ItemTree → Type 0
Apart n i = (S : Sorts) → find_named (declared_by S i) n ≡ None

both_none : (n : List ℕ) (S T : Sorts) → find_named S n ≡ None → find_named T n ≡ None → find_named (S ++ T) n ≡ None
both_none n [] T e f = f
both_none n (s ∷ S) T e f = by_first (same_name s.0 n) (both_none n S T) e where
  by_first : (b : Bool) → (find_named S n ≡ None → find_named T n ≡ None → find_named (S ++ T) n ≡ None)
      → (if b then Some s.1 else find_named S n) ≡ None → (if b then Some s.1 else find_named (S ++ T) n) ≡ None
  by_first true rest e = e
  by_first false rest e = rest e f

none_then : (n : List ℕ) (S T : Sorts) (x : Sort) → find_named S n ≡ None → find_named T n ≡ Some x → find_named (S ++ T) n ≡ Some x
none_then n [] T x e f = f
none_then n (s ∷ S) T x e f = by_first (same_name s.0 n) (none_then n S T x) e where
  by_first : (b : Bool) → (find_named S n ≡ None → find_named T n ≡ Some x → find_named (S ++ T) n ≡ Some x)
      → (if b then Some s.1 else find_named S n) ≡ None → (if b then Some s.1 else find_named (S ++ T) n) ≡ Some x
  by_first true rest e = absurd (let bad : ⊥ = cc in bad)
  by_first false rest e = rest e f

-- an item behind others of other names is found
found : (n : List ℕ) (x : Sort) (S : Sorts) (front : List ItemTree) (i : ItemTree) (back : List ItemTree) → AllByRecursion (Apart n) front → find_named S n ≡ None
    → ((T : Sorts) → find_named (declared_by T i) n ≡ Some x) → find_named (sorts_after S (front ++ i ∷ back)) n ≡ Some x
found n x S [] i back all none here = stays n x (S ++ declared_by S i) back (none_then n S (declared_by S i) x none (here S))
found n x S (j ∷ front) i back all none here =
    found n x (S ++ declared_by S j) front i back all.1 (both_none n S (declared_by S j) none (all.0 S)) here

-- The head.

single_apart : (m n : List ℕ) (x : Sort) → same_name m n ≡ false → find_named ((m, x) ∷ []) n ≡ None
single_apart m n x e = ap (λ (b : Bool). if b then Some x else None) e

set_apart : {A : Type 0} (n name : List ℕ) (made : List A → SetLit) (xs : List A) → same_name name n ≡ false → AllByRecursion (Apart n) (defined name made xs)
set_apart n name made [] e = tt
set_apart n name made (x ∷ xs) e = ((λ S. single_apart name n _ e), tt)

-- a name that none of the head's items before `ixp_sends` has
record Unlike (n : List ℕ) : Type 0 where
  masters : (f : Family) → same_name (master f) n ≡ false
  tables_of_roas : (f : Family) → same_name (roas f) n ≡ false
  bogons : same_name (codes "ixp_bogons") n ≡ false
  bogon_as : same_name (codes "ixp_bogon_as") n ≡ false
  transit_as : same_name (codes "ixp_transit_as") n ≡ false
  drop : same_name (codes "ixp_drop") n ≡ false
  bh : same_name (codes "ixp_bh") n ≡ false
  net : same_name (codes "ixp_net") n ≡ false
  asns : same_name (codes "ixp_as") n ≡ false
  transit : same_name (codes "ixp_transit") n ≡ false

sends_unlike : Unlike sends_name
sends_unlike = record {
  masters = both;
  tables_of_roas = roas_both;
  bogons = refl;
  bogon_as = refl;
  transit_as = refl;
  drop = refl;
  bh = refl;
  net = refl;
  asns = refl;
  transit = refl;
} where
  both : (f : Family) → same_name (master f) sends_name ≡ false
  both V4 = refl
  both V6 = refl

  roas_both : (f : Family) → same_name (roas f) sends_name ≡ false
  roas_both V4 = refl
  roas_both V6 = refl

count_unlike : Unlike count_name
count_unlike = record {
  masters = both;
  tables_of_roas = roas_both;
  bogons = refl;
  bogon_as = refl;
  transit_as = refl;
  drop = refl;
  bh = refl;
  net = refl;
  asns = refl;
  transit = refl;
} where
  both : (f : Family) → same_name (master f) count_name ≡ false
  both V4 = refl
  both V6 = refl

  roas_both : (f : Family) → same_name (roas f) count_name ≡ false
  roas_both V4 = refl
  roas_both V6 = refl

blackhole_apart : (n : List ℕ) (family : Family) (bh : Option Addr) → same_name (codes "ixp_bh") n ≡ false → AllByRecursion (Apart n) (blackhole_function family bh)
blackhole_apart n family None e = tt
blackhole_apart n family (Some a) e = ((λ S. single_apart (codes "ixp_bh") n _ e), tt)

regroup : (a b c d e : List ItemTree) → a ++ (b ++ ((c ++ (d ++ e)) ++ [])) ≡ (a ++ (b ++ (c ++ d))) ++ e
regroup a b c d e = simp (append_assoc, append-nil)

module _ (h : HeaderInputs) where
  abbrev dropping : List ItemTree
  dropping = function_item (codes "ixp_drop") ((Int, codes "n") ∷ []) (stmts (drop_body h.router.asn.0)) ∷ blackhole_function h.router.family h.router.blackhole

  abbrev testing : List ItemTree
  testing =
      function_item (codes "ixp_net") [] (stmts (net_body h))
      ∷ function_item (codes "ixp_as") [] (stmts (bogon_as_body h))
      ∷ function_item (codes "ixp_transit") [] (stmts (transit_body h))
      ∷ []

  abbrev sending : ItemTree
  sending = function_item (codes "ixp_sends") ((Int, codes "p") ∷ []) (stmts (sends_body h.router.asn.0))

  abbrev counting : ItemTree
  counting = function_item (codes "ixp_count") ((Int, codes "p") ∷ []) (stmts (count_body h.router.asn.0))

  abbrev ending : List ItemTree
  ending =
      function_item (codes "ixp_pad") ((Int, codes "n") ∷ []) (stmts pad_body)
      ∷ filter_item (codes "ixp_out") (stmts (out_body h.router.asn.0 h.router.blackhole))
      ∷ []

  -- what stands before these functions
  abbrev front : List ItemTree → List ItemTree
  front more = tables h.router ++ (public_sets h ++ (dropping ++ (testing ++ more)))

  head_as : header h ≡ front [] ++ (sending ∷ counting ∷ ending)
  head_as = regroup (tables h.router) (public_sets h) dropping testing (sending ∷ counting ∷ ending)

  head_as_more : header h ≡ front (sending ∷ []) ++ (counting ∷ ending)
  head_as_more = regroup (tables h.router) (public_sets h) dropping (testing ++ (sending ∷ [])) (counting ∷ ending)

  front_apart : (n : List ℕ) → Unlike n → (more : List ItemTree) → AllByRecursion (Apart n) more → AllByRecursion (Apart n) (front more)
  front_apart n u more all =
      all_append (Apart n) (tables h.router) (public_sets h ++ (dropping ++ (testing ++ more)))
      ((λ S. refl), ((λ S. single_apart (master h.router.family) n _ (u.masters h.router.family)), ((λ S. single_apart (roas h.router.family) n _ (u.tables_of_roas h.router.family)), tt)))
      (all_append (Apart n) (public_sets h) (dropping ++ (testing ++ more))
      (all_append (Apart n) (defined (codes "ixp_bogons") set.Prefixes (bogons_of h)) _ (set_apart n (codes "ixp_bogons") set.Prefixes (bogons_of h) u.bogons)
      (all_append (Apart n) (defined (codes "ixp_bogon_as") set.Ints (joined_ranges h.bogon_as)) _ (set_apart n (codes "ixp_bogon_as") set.Ints (joined_ranges h.bogon_as) u.bogon_as)
      (all_append (Apart n) (defined (codes "ixp_transit_as") numbers h.transit) [] (set_apart n (codes "ixp_transit_as") numbers h.transit u.transit_as) tt)))
      (all_append (Apart n) dropping (testing ++ more)
      ((λ S. single_apart (codes "ixp_drop") n _ u.drop), blackhole_apart n h.router.family h.router.blackhole u.bh)
      ((λ S. single_apart (codes "ixp_net") n _ u.net), ((λ S. single_apart (codes "ixp_as") n _ u.asns), ((λ S. single_apart (codes "ixp_transit") n _ u.transit), all)))))

  sends_found : (more : List ItemTree) → find_named (sorts_after [] (header h ++ more)) sends_name ≡ Some (Function true (Some Truth))
  sends_found more =
      ap (λ (is : List ItemTree). find_named (sorts_after [] (is ++ more)) sends_name) head_as
      ∙ ap (λ (is : List ItemTree). find_named (sorts_after [] is) sends_name) (append_assoc (front []) (sending ∷ counting ∷ ending) more)
      ∙ found sends_name (Function true (Some Truth)) [] (front []) sending ((counting ∷ ending) ++ more) (front_apart sends_name sends_unlike [] tt) refl (λ T. refl)

  count_found : (more : List ItemTree) → find_named (sorts_after [] (header h ++ more)) count_name ≡ Some (Function true (Some Number))
  count_found more =
      ap (λ (is : List ItemTree). find_named (sorts_after [] (is ++ more)) count_name) head_as_more
      ∙ ap (λ (is : List ItemTree). find_named (sorts_after [] is) count_name) (append_assoc (front (sending ∷ [])) (counting ∷ ending) more)
      ∙ found count_name (Function true (Some Number)) [] (front (sending ∷ [])) counting (ending ++ more)
      (front_apart count_name count_unlike (sending ∷ []) ((λ S. refl), tt)) refl (λ T. refl)

pub own_shaped : (r : Registry) (router : Router) (s : Session) → shapes_told (sorts_after [] (own_part r router s)) ≡ Ok tt
own_shaped r router s =
    ap (λ (o : Option Sort). if is_shaped Truth o then (if is_shaped Number (find_named (sorts_after [] (own_part r router s)) count_name) then Ok tt else Err (misshapen count_name)) else Err (misshapen sends_name))
    (sends_found (header_inputs r router) more)
    ∙ ap (λ (o : Option Sort). if is_shaped Number o then Ok tt else Err (misshapen count_name)) (count_found (header_inputs r router) more)
  where
    more : List ItemTree
    more = session_part (inputs r router s) ++ (footer ++ [])
