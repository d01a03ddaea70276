-- What a member's advertise rules write on a route, so that its communities ask what the rules say.
use Rattle.std.specs.Prelude.{◌≡◌, ℕ, ◌+◌, ◌==◌, ◌&&◌, ◌||◌, Bool, true, not, nat_le, List, [], ◌∷◌, ◌++◌, filter, Option, if◌then◌else◌}
use Rattle.std.specs.List.{list_any, AllByRecursion}
use Rattle.ixp_num.specs.declared.asn.Asn.{Asn}
use Rattle.ixp_num.specs.declared.prefix.Prefix.{Prefix}
use Rattle.ixp_lang.specs.declared.route.Route.{Route}
use Rattle.ixp_lang.specs.Attributes.{fits_part}
use Rattle.ixp_registry.specs.declared.rules.Action.{Action}
use Rattle.ixp_registry.specs.declared.rules.Action.TheVariants.{AsIs, Prepend, Stop}
use Rattle.ixp_registry.specs.declared.rules.MemberRule.{MemberRule}
use Rattle.ixp_num_tables.specs.Tables.{if_there}
use Rattle.ixp_registry.specs.Words.{is_lawful}
use Rattle.ixp_registry.specs.Sessions.{is_about, is_advertise}
use Rattle.ixp_compile.specs.MemberRules.{any_number, number_or_0, steering_actions}

-- an advertise rule about the net, whose peer isn't the server itself
abbrev pub applies : ℕ → MemberRule → Prefix → Bool
applies rs rule net = is_advertise rule.way && if_there rule.peer true (λ p. not (p.0 == rs))
    && is_about rule net

-- the communities that steer to the peer, or to any
abbrev pub steers_triple : ℕ → Option Asn → ℕ × ℕ × ℕ → Bool
steers_triple rs peer t = t.0 == rs && list_any (λ a. a == t.1) steering_actions
    && fits_part t.2 (any_number peer)

abbrev pub steers_pair : ℕ → Option Asn → ℕ × ℕ → Bool
steers_pair rs peer p =
    (nat_le rs 65535 && nat_le (number_or_0 peer) 65535)
    && ((p.0 == 0 || p.0 == rs) && fits_part p.1 (any_number peer))

-- the large community at the end, where it isn't there
abbrev pub with_one : ℕ → ℕ → ℕ → List (ℕ × ℕ × ℕ) → List (ℕ × ℕ × ℕ)
with_one a b c ts = if list_any (λ t. t.0 == a && t.1 == b && t.2 == c) ts then ts else ts ++ (a, b, c) ∷ []

-- what the action asks for a peer
abbrev pub with_action : ℕ → ℕ → Action → List (ℕ × ℕ × ℕ) → List (ℕ × ℕ × ℕ)
with_action rs p Stop ts = with_one rs 0 p ts
with_action rs p AsIs ts = with_one rs 1 p ts
with_action rs p (Prepend k) ts = with_one rs (100 + k) p (with_one rs 1 p ts)

-- The first rule has the last word: it takes away what steers to its peer, and writes what it says.
abbrev pub rewritten_triples : ℕ → Prefix → List MemberRule → List (ℕ × ℕ × ℕ) → List (ℕ × ℕ × ℕ)
rewritten_triples rs net [] ts = ts
rewritten_triples rs net (rule ∷ rules) ts =
    if applies rs rule net
    then with_action rs (number_or_0 rule.peer) rule.action
    (filter (λ t. not (steers_triple rs rule.peer t)) (rewritten_triples rs net rules ts))
    else rewritten_triples rs net rules ts

abbrev pub rewritten_pairs : ℕ → Prefix → List MemberRule → List (ℕ × ℕ) → List (ℕ × ℕ)
rewritten_pairs rs net [] ps = ps
rewritten_pairs rs net (rule ∷ rules) ps =
    if applies rs rule net then filter (λ p. not (steers_pair rs rule.peer p))
    (rewritten_pairs rs net rules ps) else rewritten_pairs rs net rules ps

abbrev pub rewritten : ℕ → List MemberRule → Route → Route
rewritten rs rules route =
    record route { pairs = rewritten_pairs rs route.net rules route.pairs; triples = rewritten_triples rs route.net rules route.triples }

-- the rule's action is one of its way, and its peer's number at least 1
abbrev pub IsLawful : MemberRule → Type 0
IsLawful rule = is_lawful rule ≡ true

abbrev pub AreLawful : List MemberRule → Type 0
AreLawful rules = AllByRecursion IsLawful rules
