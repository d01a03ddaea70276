-- To whom a route server sends a route, and how often it puts the sender's number in front: what the sender
-- asks by communities of the form server:action:peer (RFC 1997, RFC 8092). Where several speak, the first
-- line of the table whose community the route has decides.
use Rattle.std.specs.Prelude.{ℕ, Bool, true, false, ◌&&◌, ◌==◌, nat_le, List, [], ◌∷◌, if◌then◌else◌}
use Rattle.std.specs.List.{list_any}
use Rattle.ixp_lang.specs.declared.route.Route.{Route}
use Rattle.ixp_lang.specs.declared.communities.TheConstants.{KEEP_FROM, SEND_TO, PREPEND_ONCE, PREPEND_TWICE, PREPEND_THRICE}

-- the route has the community `a:b`
abbrev pub has_pair : Route → ℕ → ℕ → Bool
has_pair r a b = list_any (λ p. p.0 == a && p.1 == b) r.pairs

-- the route has the large community `a:b:c`
abbrev pub has_triple : Route → ℕ → ℕ → ℕ → Bool
has_triple r a b c = list_any (λ t. t.0 == a && t.1 == b && t.2 == c) r.triples

-- what the first line says that holds, else `other`
abbrev pub first_line : {A : Type 0} → List (Bool × A) → A → A
first_line [] other = other
first_line ((holds, says) ∷ lines) other = if holds then says else first_line lines other

-- both numbers fit a community of two parts
abbrev pub fit_pairs : ℕ → ℕ → Bool
fit_pairs rs to = nat_le rs 65535 && nat_le to 65535

-- whether the server `rs` sends the route to the peer `to`
abbrev pub sends : ℕ → Route → ℕ → Bool
sends rs r to =
    first_line (
    (has_triple r rs KEEP_FROM to, false)
    ∷ (has_triple r rs SEND_TO to, true)
    ∷ (has_triple r rs KEEP_FROM 0, false)
    ∷ (has_triple r rs SEND_TO 0, true)
    ∷ (fit_pairs rs to && has_pair r 0 to, false)
    ∷ (fit_pairs rs to && has_pair r rs to, true)
    ∷ (fit_pairs rs to && has_pair r 0 rs, false)
    ∷ (fit_pairs rs to && has_pair r rs rs, true)
    ∷ [])
    true

-- How often the sender's number is put in front for the peer `to`: the most that is asked for it, else
-- nothing where sending to it is asked, else the most that is asked for every peer, whose number is 0 then
abbrev pub prepends : ℕ → Route → ℕ → ℕ
prepends rs r to =
    first_line (
    (has_triple r rs PREPEND_THRICE to, 3)
    ∷ (has_triple r rs PREPEND_TWICE to, 2)
    ∷ (has_triple r rs PREPEND_ONCE to, 1)
    ∷ (has_triple r rs SEND_TO to, 0)
    ∷ (has_triple r rs PREPEND_THRICE 0, 3)
    ∷ (has_triple r rs PREPEND_TWICE 0, 2)
    ∷ (has_triple r rs PREPEND_ONCE 0, 1)
    ∷ [])
    0
