-- The import filter of a session fits.
use Rattle.std.proofs.Common.{◌≡◌, ℕ, suc, Bool, true, false, List, [], ◌∷◌, codes, Option, Some, None, refl, if◌then◌else◌}
use Rattle.ixp_lang.specs.Trees.{StmtTree, filter_item, stmts, call, exprs, accept}
use Rattle.ixp_num.specs.declared.addr.Addr.{Addr}
use Rattle.ixp_num.specs.declared.asn.Asn.{Asn}
use Rattle.ixp_num.specs.declared.pattern.Pattern.{Pattern}
use Rattle.ixp_lang_exprs.specs.Names.{Names}
use Rattle.ixp_lang_exprs.specs.declared.types.ValueType.{ValueType}
use Rattle.ixp_lang_exprs.specs.declared.types.ValueType.TheVariants as type
use Rattle.ixp_lang_exprs.specs.declared.context.Scope.TheVariants as scope
use Rattle.ixp_lang_exprs.specs.declared.env.Declared.{Declared}
use Rattle.ixp_lang_exprs.specs.declared.env.Declared.TheVariants.{Function, Define, Table}
use Rattle.ixp_compile.specs.declared.inputs.Inputs.{Inputs}
use Rattle.ixp_compile.specs.Pieces.{roas, tell}
use Rattle.ixp_compile.specs.Fragment.{irr_name, origins_name, blackhole_name, in_name, net_test, first_tests, transit_test, origin_test, registered_origin, blackhole_test, blackhole_set, told_registered, state_test, prefix_test, in_body}
use Rattle.ixp_lang_laws.specs.Sound.{some_of}
use Rattle.ixp_lang_laws.specs.SoundItems.{item_fits}
use Rattle.ixp_compile_laws.proofs.Parts.{PartFits, part_of, no_part, both_parts, if_fits, fits_alone, when_fits}

-- `name();`
abbrev pub procedure : List ValueType → Option Declared
procedure params = Some (Function (record { params = params; returns = None }))

abbrev pub gives : List ValueType → ValueType → Option Declared
gives params t = Some (Function (record { params = params; returns = Some t }))

abbrev pub a_set : ValueType → Option Declared
a_set t = Some (Define t None)

abbrev pub IfAny : {A : Type 0} → List A → Type 0 → Type 0
IfAny [] P = Unit {0}
IfAny (x ∷ xs) P = P

abbrev pub IfSet : {A : Type 0} → Option A → Type 0 → Type 0
IfSet None P = Unit {0}
IfSet (Some x) P = P

-- what the names of the head stand for
pub record Heads (names : Names) (i : Inputs) : Type 0 where
  pub drop : names (codes "ixp_drop") ≡ procedure (type.Int ∷ [])
  pub net : names (codes "ixp_net") ≡ procedure []
  pub path : names (codes "ixp_as") ≡ procedure []
  pub transit : names (codes "ixp_transit") ≡ procedure []
  pub bh : IfSet i.blackhole (names (codes "ixp_bh") ≡ gives [] type.Bool)
  pub roa : names (roas i.family) ≡ Some (Table (record { is_roa = true; in_session = false; in_pipe = false }))

-- and those of the session's sets
pub record Sets (names : Names) (i : Inputs) (irr blackholes : List Pattern) : Type 0 where
  pub registered : IfAny irr (names (irr_name i.interface) ≡ a_set type.PrefixSet)
  pub origins : IfAny i.origins (names (origins_name i.interface) ≡ a_set type.IntSet)
  pub blackholed : IfSet i.blackhole (IfAny blackholes (names (blackhole_name i.interface) ≡ a_set type.PrefixSet))

module _ (names : Names) (i : Inputs) (irr blackholes : List Pattern) (h : Heads names i) (own : i.address.irr ≡ true → Sets names i irr blackholes) (some : some_of i.addresses ≡ true) where
  abbrev Part : List StmtTree → Type 0
  Part = PartFits names scope.Filter 63

  first : Part (first_tests i)
  first = part_of names scope.Filter 63 (first_tests i) (λ r. (rw (h.drop, h.net, h.path, some) refl, refl))

  transit : Part (transit_test i)
  transit = if_fits names scope.Filter 63 i.transit_free _ _ (λ e. no_part names scope.Filter 63) (λ e. part_of names scope.Filter 63 _ (λ r. (rw h.transit refl, refl)))

  registered : (asns : List Asn) → IfAny asns (names (origins_name i.interface) ≡ a_set type.IntSet) → Part (registered_origin i asns)
  registered [] known = part_of names scope.Filter 63 _ (λ r. (rw h.drop refl, refl))
  registered (a ∷ asns) known = part_of names scope.Filter 63 _ (λ r. (rw (known, h.drop) refl, refl))

  origin : Part (origin_test i)
  origin = if_fits names scope.Filter 63 i.address.irr _ _ (λ e. registered i.origins (own e).origins) (λ e. part_of names scope.Filter 63 _ (λ r. (refl, refl)))

  -- at any level
  in_set : (n : ℕ) (name : List ℕ) (ts : List Pattern) → IfAny ts (names name ≡ a_set type.PrefixSet) → PartFits names scope.Filter (suc n) (net_test name ts ∷ [])
  in_set n name [] known = part_of names scope.Filter (suc n) _ (λ r. (rw h.drop refl, refl))
  in_set n name (t ∷ ts) known = part_of names scope.Filter (suc n) _ (λ r. (rw (known, h.drop) refl, refl))

  told : (n : ℕ) → PartFits names scope.Filter (suc n) (told_registered i)
  told n = if_fits names scope.Filter (suc n) i.address.irr _ _ (λ e. part_of names scope.Filter (suc n) _ (λ r. (refl, refl))) (λ e. no_part names scope.Filter (suc n))

  chosen : (b : Bool) → (b ≡ true → IfAny blackholes (names (blackhole_name i.interface) ≡ a_set type.PrefixSet)) → IfAny (if b then blackholes else []) (names (blackhole_name i.interface) ≡ a_set type.PrefixSet)
  chosen true e = e refl
  chosen false e = tt

  blackhole : (a : Option Addr) → IfSet a (names (codes "ixp_bh") ≡ gives [] type.Bool) → (i.address.irr ≡ true → IfSet a (IfAny blackholes (names (blackhole_name i.interface) ≡ a_set type.PrefixSet))) → Part (blackhole_test i blackholes a)
  blackhole None known sets = no_part names scope.Filter 63
  blackhole (Some a) known sets =
      when_fits names scope.Filter 62 (call (codes "ixp_bh") (exprs [])) _ (rw known refl)
      (both_parts names scope.Filter 62 (tell i.rs.0 1000 3 ∷ []) _ (part_of names scope.Filter 62 _ (λ r. (refl, refl)))
      (both_parts names scope.Filter 62 (net_test (blackhole_name i.interface) (blackhole_set i blackholes) ∷ []) _ (in_set 61 (blackhole_name i.interface) (blackhole_set i blackholes) (chosen i.address.irr sets))
      (both_parts names scope.Filter 62 (told_registered i) (accept ∷ []) (told 61) (part_of names scope.Filter 62 _ (λ r. (refl, refl))))))

  state : Part (state_test i)
  state = if_fits names scope.Filter 63 i.rpki _ _ (λ e. part_of names scope.Filter 63 _ (λ r. (rw (h.roa, h.drop) refl, refl))) (λ e. part_of names scope.Filter 63 _ (λ r. (refl, refl)))

  prefix_ : Part (prefix_test i irr)
  prefix_ = if_fits names scope.Filter 63 i.address.irr _ _ (λ e. in_set 62 (irr_name i.interface) irr (own e).registered) (λ e. no_part names scope.Filter 63)

  all : Part (in_body i irr blackholes)
  all =
      both_parts names scope.Filter 63 (first_tests i) _ first
      (both_parts names scope.Filter 63 (transit_test i) _ transit
      (both_parts names scope.Filter 63 (origin_test i) _ origin
      (both_parts names scope.Filter 63 (blackhole_test i blackholes i.blackhole) _ (blackhole i.blackhole h.bh (λ e. (own e).blackholed))
      (both_parts names scope.Filter 63 (state_test i) _ state
      (both_parts names scope.Filter 63 (prefix_test i irr) _ prefix_
      (both_parts names scope.Filter 63 (told_registered i) _ (told 62)
      (part_of names scope.Filter 63 _ (λ r. (refl, refl)))))))))

  pub in_fits : (number : ℕ) → names (in_name i.interface) ≡ None → item_fits number names (filter_item (in_name i.interface) (stmts (in_body i irr blackholes))) ≡ true
  in_fits number free = rw (free, fits_alone names scope.Filter 63 (in_body i irr blackholes) _ all) refl
