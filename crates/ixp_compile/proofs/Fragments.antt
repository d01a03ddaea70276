-- A session's part of a text, behind others.
use Rattle.std.proofs.Common.{◌≡◌, ℕ, Bool, true, false, List, [], ◌∷◌, ◌++◌, Option, Some, None, is_none, codes, refl, sym, ap, ◌∙◌, subst, if◌then◌else◌}
use Rattle.std.specs.List.{AllByRecursion}
use Rattle.std.specs.Option.{is_some}
use Rattle.ixp_num.specs.declared.addr.Addr.{Addr}
use Rattle.ixp_num.specs.declared.pattern.Pattern.{Pattern}
use Rattle.ixp_lang.specs.declared.value.SetLit.{SetLit}
use Rattle.ixp_lang.specs.declared.value.SetLit.TheVariants as set
use Rattle.ixp_lang.specs.declared.value.Value.TheVariants as value
use Rattle.ixp_lang.specs.Trees.{ExprTree, ItemTree, stmts, table_item, define_item, function_item, filter_item, pipe_item, bgp_item}
use Rattle.ixp_lang.specs.Meaning.{Environment, same_name, known, filter_of}
use Rattle.ixp_registry.specs.declared.registry.Registry.{Registry}
use Rattle.ixp_registry.specs.declared.router.Router.{Router}
use Rattle.ixp_registry.specs.Sessions.{Session}
use Rattle.ixp_compile.specs.declared.inputs.Inputs.{Inputs}
use Rattle.ixp_compile.specs.Exports.{LetsIn}
use Rattle.ixp_compile.specs.Fragment.{fragment, member_sets, if_blackholes, session_filters, protocols, table_name, irr_name, origins_name, blackhole_name, in_name, up_name, receive_name, down_name, in_body, up_body, down_body, pipe_of, bgp_of}
use Rattle.ixp_compile.specs.Generated.{inputs}
use Rattle.ixp_compile.specs.Imports.{Names}
use Rattle.ixp_compile.specs.MemberRules.{receive_body}
use Rattle.ixp_compile.specs.Pieces.{in_turn, defined, numbers, table_kind}
use Rattle.ixp_compile.specs.Shared.{Shared, IsNamed}
use Rattle.ixp_compile.proofs.GoingDown.{receive_runs}
use Rattle.ixp_compile.proofs.Laying.{laid, laid_append, all_append, same_refl, GivesNone, CallsNone, FiltersNone, FunctionsNone, named_kept, defined_named, defined_others, call_kept, filter_there}

-- What the shared functions mean stays behind items of other names.
pub shared_kept : (env : Environment) (r : Registry) (router : Router) (items behind : List ItemTree)
    → ((n : List ℕ) → AllByRecursion (CallsNone (codes "ixp_" ++ n)) items)
    → Shared r router (known env behind) → Shared r router (known env (laid items behind))
shared_kept env r router items behind other h = record {
  drop = λ n route. ap (λ f. f (value.Int n ∷ []) route) (call_kept env (codes "ixp_drop") items behind (other (codes "drop"))) ∙ h.drop n route;
  blackhole = λ route same there. ap (λ f. f [] route) (call_kept env (codes "ixp_bh") items behind (other (codes "bh"))) ∙ h.blackhole route same there;
  net = λ route same clean. ap (λ f. f [] route) (call_kept env (codes "ixp_net") items behind (other (codes "net"))) ∙ h.net route same clean;
  bogon_as = λ route. ap (λ f. f [] route) (call_kept env (codes "ixp_as") items behind (other (codes "as"))) ∙ h.bogon_as route;
  transit = λ route. ap (λ f. f [] route) (call_kept env (codes "ixp_transit") items behind (other (codes "transit"))) ∙ h.transit route;
  sends = λ p route. ap (λ f. f (value.Int p ∷ []) route) (call_kept env (codes "ixp_sends") items behind (other (codes "sends"))) ∙ h.sends p route;
  counts = λ p route. ap (λ f. f (value.Int p ∷ []) route) (call_kept env (codes "ixp_count") items behind (other (codes "count"))) ∙ h.counts p route;
  pads = λ n route small. ap (λ f. f (value.Int n ∷ []) route) (call_kept env (codes "ixp_pad") items behind (other (codes "pad"))) ∙ h.pads n route small;
}

-- What holds of each item of a part.
module _ (P : ItemTree → Type 0) (of_set : (n : List ℕ) (e : ExprTree) → P (define_item n e)) where
  defined_all : {A : Type 0} (n : List ℕ) (made : List A → SetLit) (xs : List A) → AllByRecursion P (defined n made xs)
  defined_all n made [] = tt
  defined_all n made (x ∷ xs) = (of_set n _, tt)

  pub sets_all : (i : Inputs) (irr blackholes : List Pattern) → AllByRecursion P (member_sets i irr blackholes)
  sets_all i irr blackholes = held i.address.irr where
    drops : (b : Bool) → AllByRecursion P (if b then [] else defined (blackhole_name i.interface) set.Prefixes blackholes)
    drops true = tt
    drops false = defined_all (blackhole_name i.interface) set.Prefixes blackholes

    held : (b : Bool) → AllByRecursion P (if b then in_turn (defined (irr_name i.interface) set.Prefixes irr ∷ defined (origins_name i.interface) numbers i.origins ∷ if_blackholes i (defined (blackhole_name i.interface) set.Prefixes blackholes) ∷ []) else [])
    held false = tt
    held true =
        all_append P (defined (irr_name i.interface) set.Prefixes irr) _ (defined_all (irr_name i.interface) set.Prefixes irr)
        (all_append P (defined (origins_name i.interface) numbers i.origins) _ (defined_all (origins_name i.interface) numbers i.origins)
        (all_append P (if_blackholes i (defined (blackhole_name i.interface) set.Prefixes blackholes)) [] (drops (is_none i.blackhole)) tt))

  pub part_all : (i : Inputs) (irr blackholes : List Pattern) → P (table_item (table_kind i.family) (table_name i.interface))
      → AllByRecursion P (session_filters i irr blackholes) → AllByRecursion P (protocols i) → AllByRecursion P (fragment i irr blackholes)
  part_all i irr blackholes table filters ends = (
    table,
    all_append P (member_sets i irr blackholes) (session_filters i irr blackholes ++ (protocols i ++ [])) (sets_all i irr blackholes)
        (all_append P (session_filters i irr blackholes) (protocols i ++ []) filters (all_append P (protocols i) [] ends tt)),
  )

pub part_calls : (i : Inputs) (irr blackholes : List Pattern) (n : List ℕ) → AllByRecursion (CallsNone (codes "ixp_" ++ n)) (fragment i irr blackholes)
part_calls i irr blackholes n = part_all (CallsNone (codes "ixp_" ++ n)) (λ m e. tt) i irr blackholes tt (tt, (tt, (refl, (tt, tt)))) (tt, (tt, tt))

pub part_filters : (i : Inputs) (irr blackholes : List Pattern) (n : List ℕ) → same_name (in_name i.interface) n ≡ false → same_name (up_name i.interface) n ≡ false
    → same_name (down_name i.interface) n ≡ false → AllByRecursion (FiltersNone n) (fragment i irr blackholes)
part_filters i irr blackholes n a b c = part_all (FiltersNone n) (λ m e. tt) i irr blackholes tt (a, (b, (tt, (c, tt)))) (tt, (tt, tt))

pub part_functions : (i : Inputs) (irr blackholes : List Pattern) (n : List ℕ) → same_name (receive_name i.interface) n ≡ false
    → AllByRecursion (FunctionsNone n) (fragment i irr blackholes)
part_functions i irr blackholes n a = part_all (FunctionsNone n) (λ m e. tt) i irr blackholes tt (tt, (tt, (a, (tt, tt)))) (tt, (tt, tt))

-- The filters of a part, and what stands before each.
module _ (env : Environment) (r : Registry) (router : Router) (s : Session) (irr blackholes : List Pattern) (behind : List ItemTree) where
  abbrev i : Inputs
  i = inputs r router s

  abbrev pub with_table : List ItemTree
  with_table = table_item (table_kind router.family) (table_name s.interface.number) ∷ behind

  -- before the import filter
  abbrev pub with_sets : List ItemTree
  with_sets = laid (member_sets i irr blackholes) with_table

  -- before the filter up
  abbrev pub with_in : List ItemTree
  with_in = filter_item (in_name s.interface.number) (stmts (in_body i irr blackholes)) ∷ with_sets

  -- before the filter down
  abbrev pub with_receive : List ItemTree
  with_receive =
      function_item (receive_name s.interface.number) [] (stmts (receive_body router.family s.rules))
      ∷ filter_item (up_name s.interface.number) (stmts (up_body i))
      ∷ with_in

  abbrev pub part_items : List ItemTree
  part_items =
      bgp_item (bgp_of i) ∷ pipe_item (pipe_of i) ∷ filter_item (down_name s.interface.number) (stmts (down_body i)) ∷ with_receive

  pub part_laid : laid (fragment i irr blackholes) behind ≡ part_items
  part_laid = laid_append (member_sets i irr blackholes) (session_filters i irr blackholes ++ (protocols i ++ [])) with_table

  pub in_found : filter_of part_items (in_name s.interface.number) ≡ Some (with_sets, stmts (in_body i irr blackholes))
  in_found = filter_there (in_name s.interface.number) (stmts (in_body i irr blackholes)) with_sets

  pub up_found : filter_of part_items (up_name s.interface.number) ≡ Some (with_in, stmts (up_body i))
  up_found = filter_there (up_name s.interface.number) (stmts (up_body i)) with_in

  pub down_found : filter_of part_items (down_name s.interface.number) ≡ Some (with_receive, stmts (down_body i))
  down_found = filter_there (down_name s.interface.number) (stmts (down_body i)) with_receive

  -- The sets have their names.

  abbrev irrs : List ItemTree
  irrs = defined (irr_name s.interface.number) set.Prefixes irr

  abbrev origins : List ItemTree
  origins = defined (origins_name s.interface.number) numbers s.origins

  abbrev drops : List ItemTree
  drops = if_blackholes i (defined (blackhole_name s.interface.number) set.Prefixes blackholes)

  abbrev held_sets : List ItemTree
  held_sets = laid drops (laid origins (laid irrs with_table))

  sets_laid : s.address.irr ≡ true → with_sets ≡ held_sets
  sets_laid held =
      ap (λ b. laid (if b then in_turn (irrs ∷ origins ∷ drops ∷ []) else []) with_table) held
      ∙ laid_append irrs (origins ++ (drops ++ [])) with_table ∙ laid_append origins (drops ++ []) (laid irrs with_table)
      ∙ laid_append drops [] (laid origins (laid irrs with_table))

  drops_give : (n : List ℕ) → same_name n (blackhole_name s.interface.number) ≡ false → AllByRecursion (GivesNone n) drops
  drops_give n other = go (is_none router.blackhole) where
    go : (b : Bool) → AllByRecursion (GivesNone n) (if b then [] else defined (blackhole_name s.interface.number) set.Prefixes blackholes)
    go true = tt
    go false = defined_others n (blackhole_name s.interface.number) set.Prefixes blackholes other

  irr_named : IsNamed (known env held_sets) (irr_name s.interface.number) set.Prefixes irr
  irr_named =
      named_kept env (irr_name s.interface.number) set.Prefixes irr drops (laid origins (laid irrs with_table)) (drops_give (irr_name s.interface.number) refl)
      (named_kept env (irr_name s.interface.number) set.Prefixes irr origins (laid irrs with_table)
      (defined_others (irr_name s.interface.number) (origins_name s.interface.number) numbers s.origins refl)
      (defined_named env (irr_name s.interface.number) set.Prefixes irr with_table))

  origins_named : IsNamed (known env held_sets) (origins_name s.interface.number) numbers s.origins
  origins_named =
      named_kept env (origins_name s.interface.number) numbers s.origins drops (laid origins (laid irrs with_table)) (drops_give (origins_name s.interface.number) refl)
      (defined_named env (origins_name s.interface.number) numbers s.origins (laid irrs with_table))

  some_not_none : (o : Option Addr) → is_some o ≡ true → is_none o ≡ false
  some_not_none (Some a) e = refl
  some_not_none None e = absurd (let bad : ⊥ = cc in bad)

  blackholes_named : is_some router.blackhole ≡ true → IsNamed (known env held_sets) (blackhole_name s.interface.number) set.Prefixes blackholes
  blackholes_named there =
      subst (λ b. IsNamed (known env (laid (if b then [] else defined (blackhole_name s.interface.number) set.Prefixes blackholes) (laid origins (laid irrs with_table)))) (blackhole_name s.interface.number) set.Prefixes blackholes)
      (sym (some_not_none router.blackhole there))
      (defined_named env (blackhole_name s.interface.number) set.Prefixes blackholes (laid origins (laid irrs with_table)))

  pub names_there : Names router s irr blackholes (known env with_sets)
  names_there = record {
    registered = λ held. subst (λ is. IsNamed (known env is) (irr_name s.interface.number) set.Prefixes irr) (sym (sets_laid held)) irr_named;
    origins = λ held. subst (λ is. IsNamed (known env is) (origins_name s.interface.number) numbers s.origins) (sym (sets_laid held)) origins_named;
    covered = λ held there.
        subst (λ is. IsNamed (known env is) (blackhole_name s.interface.number) set.Prefixes blackholes) (sym (sets_laid held)) (blackholes_named there);
  }

  -- The shared functions, and the receiver's own.

  pub shared_there : Shared r router (known env behind) → Shared r router (known env with_sets)
  shared_there h = shared_kept env r router (member_sets i irr blackholes) with_table (λ n. sets_all (CallsNone (codes "ixp_" ++ n)) (λ m e. tt) i irr blackholes) h

  pub shared_down : Shared r router (known env behind) → Shared r router (known env with_receive)
  shared_down h =
      shared_kept env r router
      (function_item (receive_name s.interface.number) [] (stmts (receive_body router.family s.rules)) ∷ [])
      (filter_item (up_name s.interface.number) (stmts (up_body i)) ∷ with_in)
      (λ n. (refl, tt)) (shared_there h)

  pub lets_in_there : LetsIn router s (known env with_receive)
  lets_in_there = λ route same.
      rw (same_refl (receive_name s.interface.number)) (receive_runs env (known env with_in) router.family s.rules route same)
