-- The bodies of the head's longer functions fit.
use Rattle.std.proofs.Common.{◌≡◌, ℕ, Bool, true, ◌==◌, nat_le, List, [], ◌∷◌, codes, Option, Some, None, refl}
use Rattle.ixp_lang.specs.Trees.{StmtTree, filter_item, stmts}
use Rattle.ixp_lang.specs.declared.item.Ty.TheVariants.{Int}
use Rattle.ixp_num.specs.declared.addr.Addr.{Addr}
use Rattle.ixp_num.specs.declared.pattern.Pattern.{Pattern}
use Rattle.ixp_lang_exprs.specs.Names.{Names}
use Rattle.ixp_lang_exprs.specs.declared.types.ValueType.TheVariants as type
use Rattle.ixp_lang_exprs.specs.declared.context.Scope.TheVariants as scope
use Rattle.ixp_lang_exprs.specs.declared.env.Declared.TheVariants.{Function, Filter}
use Rattle.ixp_compile.specs.declared.inputs.HeaderInputs.{HeaderInputs}
use Rattle.ixp_compile.specs.Pieces.{where_any}
use Rattle.ixp_compile.specs.Header.{bogons_of, is_too_long, community_tests, net_body, out_body, blackhole_hop, pairs_taken_away}
use Rattle.ixp_lang_laws.specs.SoundItems.{item_fits}
use Rattle.ixp_lang_laws.specs.SoundStatements.{is_of}
use Rattle.ixp_compile_laws.proofs.Parts.{PartFits, part_of, no_part, both_parts, if_fits, fits_alone}
use Rattle.ixp_compile_laws.proofs.Import.{procedure, gives, a_set, IfAny}

-- Bodies.

module _ (names : Names) (number : ℕ) where
  abbrev pub Part : List StmtTree → Type 0
  Part = PartFits names (scope.Function number) 63

  abbrev pub IfHop : Option Addr → Type 0
  IfHop None = Unit {0}
  IfHop (Some a) = names (codes "ixp_bh") ≡ gives [] type.Bool

  pub too_long : (b : Option Addr) (high : ℕ) → IfHop b → is_of names (scope.Function number) type.Bool 63 (is_too_long b high) ≡ true
  too_long None high k = refl
  too_long (Some a) high k = rw k refl

  pub net_part : (h : HeaderInputs) → names (codes "ixp_drop") ≡ procedure (type.Int ∷ []) → IfHop h.router.blackhole → IfAny (bogons_of h) (names (codes "ixp_bogons") ≡ a_set type.PrefixSet) → Part (net_body h)
  net_part h drop hop bogons =
      both_parts names (scope.Function number) 63 (_ ∷ []) _ (part_of names (scope.Function number) 63 _ (λ r. (rw (too_long h.router.blackhole h.router.high hop, drop) refl, refl)))
      (both_parts names (scope.Function number) 63 (_ ∷ []) _ (part_of names (scope.Function number) 63 _ (λ r. (rw drop refl, refl)))
      (both_parts names (scope.Function number) 63 (where_any (bogons_of h) _) _ (by_list (bogons_of h) bogons)
      (both_parts names (scope.Function number) 63 (_ ∷ _ ∷ []) (community_tests h.router.max_comms) (part_of names (scope.Function number) 63 _ (λ r. (rw drop refl, refl)))
      (if_fits names (scope.Function number) 63 (h.router.max_comms == 0) _ _ (λ e. no_part names (scope.Function number) 63) (λ e. part_of names (scope.Function number) 63 _ (λ r. (rw drop refl, refl)))))))
    where
      by_list : (ts : List Pattern) → IfAny ts (names (codes "ixp_bogons") ≡ a_set type.PrefixSet)
          → PartFits names (scope.Function number) 63 (where_any ts (Rattle.ixp_compile.specs.Pieces.when (Rattle.ixp_compile.specs.Pieces.compared Rattle.ixp_lang.specs.declared.expr.Op.TheVariants.In Rattle.ixp_lang.specs.declared.expr.Attr.TheVariants.Net (Rattle.ixp_lang.specs.Trees.named (codes "ixp_bogons"))) (Rattle.ixp_compile.specs.Pieces.drop_with 3 ∷ []) ∷ []))
      by_list [] k = no_part names (scope.Function number) 63
      by_list (t ∷ ts) k = part_of names (scope.Function number) 63 _ (λ r. (rw (k, drop) refl, refl))

pub out_fits : (number : ℕ) (names : Names) (rs : ℕ) (b : Option Addr) → names (codes "ixp_out") ≡ None → IfHop names number b → item_fits number names (filter_item (codes "ixp_out") (stmts (out_body rs b))) ≡ true
out_fits number names rs b free hop = rw (free, fits_alone names scope.Filter 63 (out_body rs b) _ all) refl
  where
    hop_part : (b : Option Addr) → IfHop names number b → PartFits names scope.Filter 63 (blackhole_hop b)
    hop_part None k = no_part names scope.Filter 63
    hop_part (Some a) k = part_of names scope.Filter 63 _ (λ r. (rw k refl, refl))

    all : PartFits names scope.Filter 63 (out_body rs b)
    all =
        both_parts names scope.Filter 63 (blackhole_hop b) _ (hop_part b hop)
        (both_parts names scope.Filter 63 (_ ∷ []) _ (part_of names scope.Filter 63 _ (λ r. (refl, refl)))
        (both_parts names scope.Filter 63 (pairs_taken_away rs) _ (if_fits names scope.Filter 63 (nat_le rs 65535) _ _ (λ e. part_of names scope.Filter 63 _ (λ r. (rw e refl, refl))) (λ e. no_part names scope.Filter 63))
        (part_of names scope.Filter 63 _ (λ r. (refl, refl)))))
