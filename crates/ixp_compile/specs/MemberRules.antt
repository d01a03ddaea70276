-- A member's rules as filter text. Its advertise rules rewrite the communities that steer the route, its
-- receive rules say whose routes it is sent.
use Rattle.std.specs.Prelude.{ℕ, ◌+◌, ◌==◌, ◌&&◌, Bool, true, not, nat_le, List, [], ◌∷◌, ◌++◌, Option, Some, None, map, filter, flat_map, reverse, if◌then◌else◌}
use Rattle.ixp_num.specs.declared.asn.Asn.{Asn}
use Rattle.ixp_num.specs.declared.family.Family.{Family}
use Rattle.ixp_num.specs.declared.pattern.Pattern.{Pattern}
use Rattle.ixp_num.specs.declared.prefix.Prefix.{Prefix}
use Rattle.ixp_num.specs.Families.{bits_of, same_family}
use Rattle.ixp_lang.specs.declared.communities.TheConstants.{KEEP_FROM, PREPEND_ONCE, PREPEND_THRICE, PREPEND_TWICE, SEND_TO}
use Rattle.ixp_lang.specs.declared.expr.Attr.TheVariants as attr
use Rattle.ixp_lang.specs.declared.expr.Op.TheVariants as op
use Rattle.ixp_lang.specs.declared.value.SetLit.TheVariants as set
use Rattle.ixp_lang.specs.Trees.{ExprTree, set_literal, conjunction, exprs, StmtTree, return_value, delete_pairs, delete_triples}
use Rattle.ixp_registry.specs.declared.rules.Action.{Action}
use Rattle.ixp_registry.specs.declared.rules.Action.TheVariants.{AsIs, Prepend, Stop}
use Rattle.ixp_registry.specs.declared.rules.MemberRule.{MemberRule}
use Rattle.ixp_num_tables.specs.Tables.{if_there}
use Rattle.ixp_registry.specs.Sessions.{is_advertise, is_stop}
use Rattle.ixp_compile.specs.Pieces.{int, truth_value, compared, when, tell}

-- the rule's prefix is any, or of the family
abbrev pub is_of_family : Family → MemberRule → Bool
is_of_family family rule = if_there rule.prefix true (λ p. same_family p.family family)

-- all nets that the prefix covers
abbrev pub within : Prefix → Pattern
within p = record { prefix = p; low = p.len; high = bits_of p.family }

-- `net ~ [prefix{len,max}]`
abbrev pub net_within : Prefix → ExprTree
net_within p = compared op.In attr.Net (set_literal (set.Prefixes (within p ∷ [])))

-- Advertise rules.

-- the rules that are printed: a rule whose peer is the server itself has no effect
abbrev pub is_printed : ℕ → Family → MemberRule → Bool
is_printed rs family rule =
    is_advertise rule.way && if_there rule.peer true (λ p. not (p.0 == rs)) && is_of_family family rule

-- the peer in a community that is taken away: any number where the rule's peer is any
abbrev pub any_number : Option Asn → Option ℕ
any_number None = None
any_number (Some p) = Some p.0

-- the peer in a community that is written: 0 where the rule's peer is any
abbrev pub number_or_0 : Option Asn → ℕ
number_or_0 None = 0
number_or_0 (Some p) = p.0

-- the second parts of the large communities that steer
abbrev pub steering_actions : List ℕ
steering_actions = KEEP_FROM ∷ SEND_TO ∷ PREPEND_ONCE ∷ PREPEND_TWICE ∷ PREPEND_THRICE ∷ []

-- where both numbers fit communities of two parts
abbrev pub pairs_rewritten : ℕ → Option Asn → List StmtTree
pairs_rewritten rs peer =
    if nat_le rs 65535 && nat_le (number_or_0 peer) 65535
    then delete_pairs (set_literal (set.Pairs ((0, any_number peer) ∷ (rs, any_number peer) ∷ []))) ∷ []
    else []

-- what the action writes for the peer
abbrev pub action_written : ℕ → ℕ → Action → List StmtTree
action_written rs p Stop = tell rs 0 p ∷ []
action_written rs p AsIs = tell rs 1 p ∷ []
action_written rs p (Prepend k) = tell rs 1 p ∷ tell rs (100 + k) p ∷ []

-- what steers to the peer is replaced by what the rule says
abbrev pub rewriting : ℕ → MemberRule → List StmtTree
rewriting rs rule =
    pairs_rewritten rs rule.peer
    ++ delete_triples (set_literal (set.Triples (map (λ a. (rs, a, any_number rule.peer)) steering_actions)))
    ∷ action_written rs (number_or_0 rule.peer) rule.action

abbrev pub where_about : Option Prefix → List StmtTree → List StmtTree
where_about None ss = ss
where_about (Some p) ss = when (net_within p) ss ∷ []

abbrev pub advertise_rule : ℕ → MemberRule → List StmtTree
advertise_rule rs rule = where_about rule.prefix (rewriting rs rule)

-- the last rule first, so that the first one that is about a route has the last word
abbrev pub advertise_rules : ℕ → Family → List MemberRule → List StmtTree
advertise_rules rs family rules = flat_map (advertise_rule rs) (reverse (filter (is_printed rs family) rules))

-- Receive rules.

abbrev pub is_receive : Family → MemberRule → Bool
is_receive family rule = not (is_advertise rule.way) && is_of_family family rule

-- the sender's number is the first one of the path
abbrev pub sender_is : Asn → ExprTree
sender_is peer = compared op.Eq attr.First (int peer.0)

abbrev pub receive_test : Option Asn → Option Prefix → ExprTree
receive_test None None = truth_value true
receive_test (Some peer) None = sender_is peer
receive_test None (Some p) = net_within p
receive_test (Some peer) (Some p) = conjunction (exprs (sender_is peer ∷ net_within p ∷ []))

abbrev pub receive_rule : MemberRule → StmtTree
receive_rule rule = when (receive_test rule.peer rule.prefix)
    (return_value (truth_value (not (is_stop rule.action))) ∷ [])

abbrev pub receive_body : Family → List MemberRule → List StmtTree
receive_body family rules = map receive_rule (filter (is_receive family) rules)
    ++ return_value (truth_value true) ∷ []
