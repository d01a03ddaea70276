-- How a route text is read: numbers and items at the front of a text, lists, and fields.
use Rattle.std.specs.Prelude.{ℕ, zero, suc, ◌+◌, ◌-◌, Bool, true, false, not, ◌&&◌, ◌||◌, ◌≡◌, ◌==◌, nat_le, nat_lt, List, [], ◌∷◌, length, take, drop, position, unwrap_or, Option, Some, None, Result, Ok, Err, if◌then◌else◌}
use Rattle.std.specs.List.{list_any, slice_get}
use Rattle.ixp_num.specs.declared.addr.Addr.{Addr}
use Rattle.ixp_num.specs.declared.prefix.Prefix.{Prefix}
use Rattle.ixp_num.specs.declared.fault.NumFault.{NumFault}
use Rattle.ixp_num.specs.declared.fault.NumFault.TheVariants as fault
use Rattle.ixp_num.specs.Answers.{AddrAnswer, PrefixAnswer}
use Rattle.ixp_lang.specs.declared.route.Route.{Route}
use Rattle.ixp_num.specs.declared.asn.Asn.{Asn}
use Rattle.ixp_num.specs.Reading.{◌>>=◌, is_digit, number_at, mark_at}
use Rattle.ixp_lang.specs.declared.reading.fault.Stop.{Stop}
use Rattle.ixp_lang.specs.declared.reading.fault.Stop.TheVariants.{Text, Set, TooLong, NoMemory}

-- the number at the front, of at most `bound`, and what is behind it; else how many bytes are left where none
-- goes on
abbrev pub number : ℕ → List ℕ → Result (ℕ × List ℕ) ℕ
number bound t = number_at t >>= λ p. if nat_le p.0 bound then Ok p else Err (length t)

-- an AS number (RFC 5396, asplain)
abbrev pub asn_item : List ℕ → Result (Asn × List ℕ) ℕ
asn_item t = number 4294967295 t >>= λ a. Ok (record { 0 = a.0 }, a.1)

-- a community: two numbers of 16 bits (RFC 1997)
abbrev pub pair_item : List ℕ → Result ((ℕ × ℕ) × List ℕ) ℕ
pair_item t = number 65535 t >>= λ a. mark_at 58 a.1 >>= λ s. number 65535 s >>= λ b. Ok ((a.0, b.0), b.1)

-- a large community: three numbers (RFC 8092)
abbrev pub triple_item : List ℕ → Result ((ℕ × ℕ × ℕ) × List ℕ) ℕ
triple_item t =
    number 4294967295 t >>= λ a. mark_at 58 a.1 >>= λ s. number 4294967295 s >>= λ b. mark_at 58 b.1 >>= λ u. number 4294967295 u >>= λ c.
    Ok ((a.0, b.0, c.0), c.1)

-- what is done with what was read, and a stop is passed on
infixl 10 ◌then◌
abbrev pub ◌then◌ : {A B : Type 0} → Result A Stop → (A → Result B Stop) → Result B Stop
Ok a then f = f a
Err stop then f = Err stop

-- a text that can't go on
abbrev pub texted : {A : Type 0} → Result A ℕ → Result A Stop
texted (Ok a) = Ok a
texted (Err left) = Err (Text left)

-- whether an item can begin here, of which this is read
abbrev pub begins : {A : Type 0} → List ℕ → Result (A × List ℕ) ℕ → Bool
begins t (Ok p) = true
begins t (Err left) = not (left == length t)

-- an item more than a list may have is told where it begins, unless no item can begin there
abbrev pub one_too_many : Bool → List ℕ → Stop
one_too_many true t = TooLong (length t)
one_too_many false t = Text (length t)

-- what follows a comma, if one stands at the front
abbrev pub after_comma : List ℕ → Option (List ℕ)
after_comma [] = None
after_comma (c ∷ cs) = if c == 44 then Some cs else None

-- the last item, or a comma and more items
abbrev pub after_item : {A : Type 0} → (List ℕ → Result (List A × List ℕ) Stop) → A → List ℕ → Option (List ℕ)
    → Result (List A × List ℕ) Stop
after_item more x t None = Ok (x ∷ [], t)
after_item more x t (Some rest) = more rest then λ q. Ok (x ∷ q.0, q.1)

module _ {A : Type 0} (item : List ℕ → Result (A × List ℕ) ℕ) where
  -- at most `room` items with commas between them, and what is behind the last one
  unfoldable pub items : ℕ → List ℕ → Result (List A × List ℕ) Stop
  items zero t = Err (one_too_many (begins t (item t)) t)
  items (suc room) t = texted (item t) then λ p. after_item (items room) p.0 p.1 (after_comma p.1)

  -- a list of at most 1,000 items, `-` where it has none
  abbrev pub list_at : List ℕ → Result (List A × List ℕ) Stop
  list_at [] = items 1000 []
  list_at (c ∷ cs) = if c == 45 then Ok ([], cs) else items 1000 (c ∷ cs)

-- what was read, seen through `view`, or memory ran out
abbrev pub Tells : {A B : Type 0} → (A → B) → Result A Stop → Result B Stop → Type 0
Tells view (Ok a) reads = reads ≡ Ok (view a)
Tells view (Err NoMemory) reads = Unit {0}
Tells view (Err stop) reads = reads ≡ Err stop

-- the bytes before the first blank, which are a field of addresses, and the bytes from it on
abbrev pub blank_at : List ℕ → ℕ
blank_at t = unwrap_or (position (λ b. b == 32) t) (length t)

abbrev pub before_blank : List ℕ → List ℕ
before_blank t = take (blank_at t) t

abbrev pub from_blank : List ℕ → List ℕ
from_blank t = drop (blank_at t) t

-- what follows a blank
abbrev pub after_blank : List ℕ → Result (List ℕ) Stop
after_blank t = texted (mark_at 32 t)

abbrev pub begins_with : ℕ → List ℕ → Bool
begins_with b [] = false
begins_with b (c ∷ cs) = c == b

-- Whether the number that is read behind the byte `before` is above its bound, whatever follows it. One
-- beside a dot is a part of an IPv4 address and at most 255; one behind a slash is a length, and at most
-- `bits`.
abbrev pub is_above : ℕ → ℕ → Result (ℕ × List ℕ) ℕ → Bool
is_above bits before (Ok p) =
    ((before == 46 || begins_with 46 p.1) && nat_lt 255 p.0) || (before == 47 && nat_lt bits p.0)
is_above bits before (Err left) = false

-- where the first such number begins, in what follows the byte `before` from this place on
abbrev pub first_above : ℕ → ℕ → ℕ → List ℕ → Option ℕ
first_above bits before place [] = None
first_above bits before place (c ∷ cs) =
    if not (is_digit before) && is_above bits before (number_at (c ∷ cs)) then Some place
    else first_above bits c (place + 1) cs

-- the bits of an address, by whether a colon stands in it
abbrev pub bits_in : List ℕ → ℕ
bits_in front = if list_any (λ b. b == 58) front then 128 else 32

-- the place of an address's fault that no address goes on at: a number above its bound that stands before is
-- the first fault
abbrev pub halt_place : List ℕ → ℕ → ℕ
halt_place front at = unwrap_or (first_above (bits_in front) 32 0 front) at

-- the fault of a field, with which the text begins; bits behind a net's length are told at its first byte
abbrev pub stop_at : List ℕ → NumFault → Stop
stop_at t (fault.Text at) = Text (length t - halt_place (take at t) at)
stop_at t (fault.Range at) = Text (length t - at)
stop_at t fault.HostBits = Text (length t)

abbrev pub is_brace : Option ℕ → Bool
is_brace None = false
is_brace (Some c) = c == 123

-- a stop at `{` in the path is a set
abbrev pub in_path : List ℕ → Stop → Stop
in_path t (Text left) = if is_brace (slice_get t (length t - left)) then Set left else Text left
in_path t (Set left) = Set left
in_path t (TooLong left) = TooLong left
in_path t NoMemory = NoMemory

abbrev pub path_field : List ℕ → Result (List Asn × List ℕ) Stop → Result (List Asn × List ℕ) Stop
path_field t (Ok p) = Ok p
path_field t (Err stop) = Err (in_path t stop)

-- a path and a blank
abbrev pub path_at : List ℕ → Result (List Asn × List ℕ) Stop
path_at t = path_field t (list_at asn_item t then λ p. after_blank p.1 then λ rest. Ok (p.0, rest))

abbrev pub whole : Route → List ℕ → Result Route Stop
whole r [] = Ok r
whole r (c ∷ cs) = Err (Text (suc (length cs)))

-- nothing more
abbrev pub at_end : List ℕ → Result (List ℕ) Stop
at_end [] = Ok []
at_end (c ∷ cs) = Err (Text (suc (length cs)))

-- behind a next hop: communities and large communities, and nothing more
abbrev pub route_end : Prefix → List Asn → Addr → List ℕ → Result Route Stop
route_end net path next_hop t =
    after_blank t then λ a. list_at pair_item a then λ pairs. after_blank pairs.1
    then λ b. list_at triple_item b then λ triples.
    whole (record { net = net; path = path; next_hop = next_hop; pairs = pairs.0; triples = triples.0 }) triples.1

-- the next hop, and what follows it
abbrev pub WithHop : Prefix → List Asn → List ℕ → Result Route Stop → Result Addr NumFault → Type 0
WithHop net path t result (Ok a) = Tells (λ r. r) result (route_end net path a (from_blank t))
WithHop net path t result (Err f) = result ≡ Err (stop_at t f)

abbrev pub FromHop : Prefix → List Asn → List ℕ → Result Route Stop → Type 0
FromHop net path t result = (hop : Result Addr NumFault) × AddrAnswer (before_blank t) hop
    × WithHop net path t result hop

-- memory ran out, or this holds
abbrev pub Unless : Result Route Stop → Type 0 → Type 0
Unless (Err NoMemory) P = Unit {0}
Unless (Err (Text left)) P = P
Unless (Err (Set left)) P = P
Unless (Err (TooLong left)) P = P
Unless (Ok r) P = P

-- the path, and what follows it
abbrev pub WithPath : Prefix → Result Route Stop → Result (List Asn × List ℕ) Stop → Type 0
WithPath net result (Ok p) = FromHop net p.0 p.1 result
WithPath net result (Err stop) = result ≡ Err stop

abbrev pub FromPath : Prefix → List ℕ → Result Route Stop → Type 0
FromPath net t result = Unless result (WithPath net result (after_blank t then path_at))

-- the net, and what follows it
abbrev pub WithNet : List ℕ → Result Route Stop → Result Prefix NumFault → Type 0
WithNet t result (Ok p) = FromPath p (from_blank t) result
WithNet t result (Err f) = result ≡ Err (stop_at t f)

-- the net, the path, the next hop, and the communities: the first that isn't there tells where reading stops
abbrev pub ReadsRoute : List ℕ → Result Route Stop → Type 0
ReadsRoute t result = (net : Result Prefix NumFault) × PrefixAnswer (before_blank t) net
    × WithNet t result net
