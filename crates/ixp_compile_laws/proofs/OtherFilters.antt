-- A session's other filters and its protocols fit.
use Rattle.std.proofs.Common.{◌≡◌, ℕ, suc, ◌≤◌, Bool, true, false, ◌&&◌, ◌==◌, nat_le, List, [], ◌∷◌, ◌++◌, map, filter, reverse, flat_map, codes, Option, Some, None, refl, le-leb, arith}
use Rattle.std.proofs.lemmas.Bool.{and_parts, and_from, eq-eqb}
use Rattle.ixp_lang.specs.Trees.{StmtTree, function_item, filter_item, pipe_item, bgp_item, stmts, accept, return_value}
use Rattle.ixp_num.specs.declared.asn.Asn.{Asn}
use Rattle.ixp_num.specs.declared.family.Family.{Family}
use Rattle.ixp_num.specs.declared.prefix.Prefix.{Prefix}
use Rattle.ixp_num.specs.Families.{bits_of}
use Rattle.ixp_registry.specs.declared.rules.Action.{Action}
use Rattle.ixp_registry.specs.declared.rules.Action.TheVariants.{AsIs, Prepend, Stop}
use Rattle.ixp_registry.specs.declared.rules.MemberRule.{MemberRule}
use Rattle.ixp_lang_tokens.specs.Pieces.{same_word}
use Rattle.ixp_lang_exprs.specs.Names.{Names}
use Rattle.ixp_lang_exprs.specs.declared.types.ValueType.TheVariants as type
use Rattle.ixp_lang_exprs.specs.declared.context.Scope.{Scope}
use Rattle.ixp_lang_exprs.specs.declared.context.Scope.TheVariants as scope
use Rattle.ixp_lang_exprs.specs.declared.env.Declared.TheVariants.{Function, Filter, Table}
use Rattle.ixp_lang_stmts.specs.Statements.{Returned, may_meet, met}
use Rattle.ixp_read.specs.Functions.{as_written}
use Rattle.ixp_compile.specs.declared.inputs.Inputs.{Inputs}
use Rattle.ixp_compile.specs.Pieces.{master, truth_value}
use Rattle.ixp_compile.specs.MemberRules.{within, net_within, pairs_rewritten, action_written, rewriting, where_about, advertise_rule, advertise_rules, receive_test, receive_rule, receive_body, is_receive, is_printed, number_or_0}
use Rattle.ixp_compile.specs.Fragment.{in_name, up_name, up_body, receive_name, down_name, down_body, table_name, pipe_name, bgp_name, pipe_of, bgp_of}
use Rattle.ixp_lang_laws.specs.Sound.{is_lawful}
use Rattle.ixp_lang_laws.specs.SoundItems.{item_fits}
use Rattle.ixp_lang_laws.specs.SoundStatements.{is_of, returned_in, stmts_fit}
use Rattle.ixp_compile_laws.proofs.Parts.{PartFits, part_of, no_part, both_parts, if_fits, fits_alone, when_fits}
use Rattle.ixp_compile_laws.proofs.Import.{procedure, gives}

pub eq_self : (n : ℕ) → (n == n) ≡ true
eq_self n = eq-eqb n n refl

pub same_self : (w : List ℕ) → same_word w w ≡ true
same_self [] = refl
same_self (b ∷ w) = and_from (b == b) (same_word w w) (eq_self b) (same_self w)

-- The way up.

pub lawful_within : (p : Prefix) → is_lawful (within p) ≡ true
lawful_within p =
    let top : bits_of p.family ≤ bits_of p.family = omega arith in
    and_from (nat_le p.len (bits_of p.family)) _ (le-leb p.len (bits_of p.family) p.short) (le-leb (bits_of p.family) (bits_of p.family) top)

module _ (names : Names) (scope : Scope) (outside : Rattle.ixp_lang_exprs.specs.Names.is_define scope ≡ false) where
  action_fits : (n rs p : ℕ) (a : Action) → PartFits names scope (suc n) (action_written rs p a)
  action_fits n rs p Stop = part_of names scope (suc n) _ (λ r. (refl, refl))
  action_fits n rs p AsIs = part_of names scope (suc n) _ (λ r. (refl, refl))
  action_fits n rs p (Prepend k) = part_of names scope (suc n) _ (λ r. (refl, refl))

  pairs_fit : (n rs : ℕ) (peer : Option Asn) → PartFits names scope (suc n) (pairs_rewritten rs peer)
  pairs_fit n rs None = if_fits names scope (suc n) (nat_le rs 65535 && true) _ _ (λ e. part_of names scope (suc n) _ (λ r. (rw (and_parts (nat_le rs 65535) true e).0 refl, refl))) (λ e. no_part names scope (suc n))
  pairs_fit n rs (Some p) =
      if_fits names scope (suc n) (nat_le rs 65535 && nat_le p.0 65535) _ _
      (λ e. part_of names scope (suc n) _ (λ r. (let h : (nat_le rs 65535 ≡ true) × (nat_le p.0 65535 ≡ true) = and_parts (nat_le rs 65535) (nat_le p.0 65535) e in (rw (h.0, h.1) refl, refl))))
      (λ e. no_part names scope (suc n))

  rewriting_fits : (n rs : ℕ) (rule : MemberRule) → PartFits names scope (suc n) (rewriting rs rule)
  rewriting_fits n rs rule =
      both_parts names scope (suc n) (pairs_rewritten rs rule.peer) _ (pairs_fit n rs rule.peer)
      (both_parts names scope (suc n) (_ ∷ []) (action_written rs (number_or_0 rule.peer) rule.action) (part_of names scope (suc n) _ (λ r. (refl, refl))) (action_fits n rs (number_or_0 rule.peer) rule.action))

  about_fits : (n : ℕ) (p : Option Prefix) (ss : List StmtTree) → PartFits names scope (suc n) ss → PartFits names scope (suc (suc n)) ss → PartFits names scope (suc (suc n)) (where_about p ss)
  about_fits n None ss deep here_ = here_
  about_fits n (Some p) ss deep here_ = when_fits names scope (suc n) (net_within p) ss (rw (outside, lawful_within p) refl) deep

  advertised : (n rs : ℕ) (rules : List MemberRule) → PartFits names scope (suc (suc n)) (flat_map (advertise_rule rs) rules)
  advertised n rs [] = no_part names scope (suc (suc n))
  advertised n rs (rule ∷ rules) =
      both_parts names scope (suc (suc n)) (advertise_rule rs rule) _ (about_fits n rule.prefix (rewriting rs rule) (rewriting_fits n rs rule) (rewriting_fits (suc n) rs rule)) (advertised n rs rules)

module _ (names : Names) (i : Inputs) where
  up_part : PartFits names scope.Filter 63 (up_body i)
  up_part =
      both_parts names scope.Filter 63 (_ ∷ []) _ (part_of names scope.Filter 63 _ (λ r. (refl, refl)))
      (both_parts names scope.Filter 63 (advertise_rules i.rs.0 i.family i.rules) (accept ∷ []) (advertised names scope.Filter refl 61 i.rs.0 (reverse (filter (is_printed i.rs.0 i.family) i.rules))) (part_of names scope.Filter 63 _ (λ r. (refl, refl))))

  pub up_fits : (number : ℕ) → names (up_name i.interface) ≡ None → item_fits number names (filter_item (up_name i.interface) (stmts (up_body i))) ≡ true
  up_fits number free = rw (free, fits_alone names scope.Filter 63 (up_body i) _ up_part) refl

-- What is let in.

receive_test_fits : (names : Names) (s : Scope) → Rattle.ixp_lang_exprs.specs.Names.is_define s ≡ false → (n : ℕ) (peer : Option Asn) (p : Option Prefix) → is_of names s type.Bool n (receive_test peer p) ≡ true
receive_test_fits names s outside n None None = refl
receive_test_fits names s outside n (Some peer) None = rw outside refl
receive_test_fits names s outside n None (Some p) = rw (outside, lawful_within p) refl
receive_test_fits names s outside n (Some peer) (Some p) = rw (outside, lawful_within p) refl

pub received : (names : Names) (number n : ℕ) (r : Returned) (rules : List MemberRule) → may_meet r type.Bool ≡ true
    → (stmts_fit names (scope.Function number) (suc n) r (stmts (map receive_rule rules ++ return_value (truth_value true) ∷ [])) ≡ true)
    × (returned_in names (scope.Function number) r (stmts (map receive_rule rules ++ return_value (truth_value true) ∷ [])) ≡ met type.Bool)
received names number n r [] may = (rw may refl, refl)
received names number n r (rule ∷ rules) may =
    let more : (stmts_fit names (scope.Function number) (suc n) (met type.Bool) (stmts (map receive_rule rules ++ return_value (truth_value true) ∷ [])) ≡ true)
    × (returned_in names (scope.Function number) (met type.Bool) (stmts (map receive_rule rules ++ return_value (truth_value true) ∷ [])) ≡ met type.Bool) = received names number n (met type.Bool) rules refl in
    (rw (receive_test_fits names (scope.Function number) refl (suc n) rule.peer rule.prefix, may, more.0) refl, more.1)

pub receive_fits : (number : ℕ) (names : Names) (i : Inputs) → names (receive_name i.interface) ≡ None → item_fits number names (function_item (receive_name i.interface) [] (stmts (receive_body i.family i.rules))) ≡ true
receive_fits number names i free = rw (free, (received (Rattle.ixp_lang_exprs.specs.Declarations.standing names (receive_name i.interface) Rattle.ixp_lang_exprs.specs.declared.env.Declared.TheVariants.Begun) number 62 (as_written None) (filter (is_receive i.family) i.rules) refl).0) refl

-- The way down.
pub down_fits : (number : ℕ) (names : Names) (i : Inputs) → names (down_name i.interface) ≡ None → names (receive_name i.interface) ≡ gives [] type.Bool → names (codes "ixp_sends") ≡ gives (type.Int ∷ []) type.Bool
    → names (codes "ixp_count") ≡ gives (type.Int ∷ []) type.Int → names (codes "ixp_pad") ≡ procedure (type.Int ∷ []) → item_fits number names (filter_item (down_name i.interface) (stmts (down_body i))) ≡ true
down_fits number names i free rx sends count pad = rw (free, rx, sends, pad, count) refl

-- Protocols.
pub pipe_fits : (number : ℕ) (names : Names) (i : Inputs) (roa taken : Bool) (own_roa own_taken : Bool) → names (pipe_name i.interface) ≡ None
    → names (master i.family) ≡ Some (Table (record { is_roa = roa; in_session = taken; in_pipe = false })) → names (table_name i.interface) ≡ Some (Table (record { is_roa = own_roa; in_session = own_taken; in_pipe = false }))
    → names (up_name i.interface) ≡ Some Filter → names (down_name i.interface) ≡ Some Filter → item_fits number names (pipe_item (pipe_of i)) ≡ true
pipe_fits number names i roa taken own_roa own_taken free head own up down = by_family i.family head
  where
    by_family : (f : Family) → names (master f) ≡ Some (Table (record { is_roa = roa; in_session = taken; in_pipe = false })) → item_fits number names (pipe_item (record (pipe_of i) { table = master f })) ≡ true
    by_family Rattle.ixp_num.specs.declared.family.Family.TheVariants.V4 head = rw (free, head, own, up, down) refl
    by_family Rattle.ixp_num.specs.declared.family.Family.TheVariants.V6 head = rw (free, head, own, up, down) refl

pub bgp_fits : (number : ℕ) (names : Names) (i : Inputs) (roa pipe : Bool) → names (bgp_name i.interface) ≡ None → names (table_name i.interface) ≡ Some (Table (record { is_roa = roa; in_session = false; in_pipe = pipe }))
    → names (in_name i.interface) ≡ Some Filter → names (codes "ixp_out") ≡ Some Filter → item_fits number names (bgp_item (bgp_of i)) ≡ true
bgp_fits number names i roa pipe free own inward outward = rw (free, own, inward, outward) refl
