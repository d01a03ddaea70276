-- What the readers of a dump compute, on lists. A fault says how many bytes are left where the faulty line
-- begins.
use Rattle.std.specs.Prelude.{◌≡◌, ℕ, zero, suc, ◌-◌, Bool, ◌&&◌, ◌||◌, ◌==◌, false, List, [], ◌∷◌, ◌++◌, length, take, drop, flat_map, Option, Some, None, IfSome, option_map, slice_get, Result, Ok, Err, if◌then◌else◌, codes, decimal, ◌+◌}
use Rattle.std.specs.Ordering.{match_ordering}
use Rattle.std.specs.declared.cmp.Ordering.TheVariants.{Less}
use Rattle.ixp_num_tables.specs.Tables.{order, same}
use Rattle.std.specs.List.{list_any}
use Rattle.std.specs.Option.{is_some, option_map_or}
use Rattle.ixp_registry.specs.declared.kind.Kind.{Kind}
use Rattle.ixp_registry.specs.declared.kind.Kind.TheVariants.{Sites, Members, Contacts, Keys, Switches, Ports, Vlans, Interfaces, Addresses, Routers, Prefixes, Origins, Rules, Bogons, BogonAs, Transit, Roas}
use Rattle.ixp_rows_lines.specs.declared.version.Version.TheVariants.{One, Two}
use Rattle.ixp_rows_lines.specs.declared.version.Version.{Version}
use Rattle.ixp_rows_lines.specs.Fields.{Field}
use Rattle.ixp_registry.specs.Kinds.{word_of}
use Rattle.ixp_rows_lines.specs.Lines.{form_of, key_length, field_key}
use Rattle.ixp_rows_lines.specs.Reading.{fields_at}
pub use Rattle.ixp_num.specs.Reading.{◌>>=◌}
use Rattle.ixp_rows.specs.declared.fault.DumpFault.{DumpFault}
use Rattle.ixp_rows.specs.declared.fault.DumpFault.TheVariants.{BadLine, Order as OutOfOrder, Twice as SameKey, NoMemory as OutOfMemory}
use Rattle.ixp_rows.specs.declared.misread.Misread.{Misread}
use Rattle.ixp_rows.specs.declared.misread.Misread.TheVariants.{Bad, Order, Twice, NoMemory}

-- what is behind the kind's word, where the text begins with it and a blank
abbrev pub with_blank : List ℕ → Option (List ℕ)
with_blank [] = None
with_blank (c ∷ cs) = if c == 32 then Some (c ∷ cs) else None

unfoldable pub behind : Kind → List ℕ → Option (List ℕ)
behind kind t =
    if same (take (length (word_of kind)) t) (word_of kind) then with_blank (drop (length (word_of kind)) t)
    else None

abbrev pub key_in : Kind → List Field → List ℕ
key_in kind fields = flat_map field_key (take (key_length kind) fields)

-- the last row's key, if there is one
abbrev pub last_key : {R : Type 0} → (R → List ℕ) → List R → Option (List ℕ)
last_key key rows = option_map key (slice_get rows (length rows - 1))

-- the last row, if there is one, is below a row
abbrev pub LastBelow : {R : Type 0} → (R → List ℕ) → List R → R → Type 0
LastBelow key rows row = IfSome (slice_get rows (length rows - 1)) (λ last. order (key last) (key row) ≡ Less)

-- the fault of a row with the key, behind a row with another one or none
abbrev pub misplaced : ℕ → Option (List ℕ) → List ℕ → Option Misread
misplaced left None key = None
misplaced left (Some last) key = match_ordering (order last key) None (Some (Twice left)) (Some (Order left))

abbrev pub unless : {A : Type 0} → Option Misread → A → Result A Misread
unless None x = Ok x
unless (Some fault) x = Err fault

abbrev pub line_with : Version → Kind → Option (List ℕ) → Option (Option (List Field × List ℕ))
line_with version kind None = Some None
line_with version kind (Some rest) = option_map (λ x. Some x) (fields_at (form_of version kind) rest)

-- the fields of the next row of the kind, if one begins here; none at all where its line isn't of the kind's
-- form
unfoldable pub line_at : Version → Kind → List ℕ → Option (Option (List Field × List ℕ))
line_at version kind t = line_with version kind (behind kind t)

abbrev pub begun : {A : Type 0} → ℕ → Option A → Result A Misread
begun left None = Err (Bad left)
begun left (Some x) = Ok x

-- the rows of the kind that follow one another; each takes a byte, so that n is enough where it is above the
-- length of the text
abbrev pub behind_row : (Option (List ℕ) → List ℕ → Result (List (List Field) × List ℕ) Misread) → Kind
    → List Field × List ℕ → Result (List (List Field) × List ℕ) Misread
behind_row more kind x = more (Some (key_in kind x.0)) x.1 >>= λ s. Ok (x.0 ∷ s.0, s.1)

abbrev pub more_with : (Option (List ℕ) → List ℕ → Result (List (List Field) × List ℕ) Misread) → Kind
    → Option (List ℕ) → List ℕ → Option (List Field × List ℕ) → Result (List (List Field) × List ℕ) Misread
more_with more kind last t None = Ok ([], t)
more_with more kind last t (Some x) =
    unless (misplaced (length t) last (key_in kind x.0)) x >>= behind_row more kind

unfoldable pub rows_from : ℕ → Version → Kind → Option (List ℕ) → List ℕ
    → Result (List (List Field) × List ℕ) Misread
rows_from zero version kind last t = Ok ([], t)
rows_from (suc n) version kind last t =
    begun (length t) (line_at version kind t) >>= λ o. more_with (rows_from n version kind) kind last t o

abbrev pub section : Version → Kind → List ℕ → Result (List (List Field) × List ℕ) Misread
section version kind t = rows_from (suc (length t)) version kind None t

-- a fault, where memory didn't run out
abbrev pub Fails : {B : Type 0} → Misread → Result B Misread → Type 0
Fails NoMemory reads = Unit {0}
Fails fault reads = reads ≡ Err fault

-- what was read, seen through `view`
abbrev pub Gives : {A B : Type 0} → (A → B) → Result A Misread → Result B Misread → Type 0
Gives view (Ok a) reads = reads ≡ Ok (view a)
Gives view (Err fault) reads = Fails fault reads

-- the rows of some kinds, one kind after the other
abbrev pub sections_at : Version → List Kind → List ℕ → Result (List (List (List Field)) × List ℕ) Misread
sections_at version [] t = Ok ([], t)
sections_at version (kind ∷ kinds) t =
    section version kind t >>= λ s. sections_at version kinds s.1 >>= λ r. Ok (s.0 ∷ r.0, r.1)

-- what is behind the dump's head
abbrev pub head_text : Version → List ℕ
head_text One = codes "ixp-registry 1\n"
head_text Two = codes "ixp-registry 2\n"

abbrev pub after_text : List ℕ → List ℕ → Option (List ℕ)
after_text front t = if same (take (length front) t) front then Some (drop (length front) t) else None

-- the site's line
abbrev pub needed : {A : Type 0} → ℕ → Option (Option A) → Result A Misread
needed left None = Err (Bad left)
needed left (Some None) = Err (Bad left)
needed left (Some (Some x)) = Ok x

abbrev pub owner_kinds : List Kind
owner_kinds = Members ∷ Contacts ∷ Keys ∷ []

abbrev pub network_kinds : List Kind
network_kinds = Switches ∷ Ports ∷ Vlans ∷ Interfaces ∷ Addresses ∷ []

abbrev pub steering_kinds : List Kind
steering_kinds = Routers ∷ Prefixes ∷ Origins ∷ Rules ∷ []

abbrev pub public_kinds : List Kind
public_kinds = Bogons ∷ BogonAs ∷ Transit ∷ Roas ∷ []

-- the rows behind the site's line, and what is behind them
abbrev pub lists_at : Version → List ℕ → Result (List (List (List Field)) × List ℕ) Misread
lists_at version t =
    sections_at version owner_kinds t >>= λ o. sections_at version network_kinds o.1 >>= λ n. sections_at version steering_kinds n.1
    >>= λ s. sections_at version public_kinds s.1 >>= λ p. Ok (o.0 ++ (n.0 ++ (s.0 ++ p.0)), p.1)

-- all rows of a dump, and what is behind them
unfoldable pub rows_at : Version → List ℕ → Result (List (List (List Field)) × List ℕ) Misread
rows_at version t =
    begun (length t) (after_text (head_text version) t) >>= λ rest. needed (length rest)
    (line_at version Sites rest)
    >>= λ s. lists_at version s.1 >>= λ x. Ok ((s.0 ∷ []) ∷ x.0, x.1)

abbrev pub is_line_of : Version → List ℕ → Kind → Bool
is_line_of version t kind = option_map_or is_some (line_at version kind t) false

-- a line of any kind stands here
unfoldable pub is_line : Version → List ℕ → Bool
is_line version t =
    is_line_of version t Sites || list_any (is_line_of version t) owner_kinds
    || list_any (is_line_of version t) network_kinds
    || list_any (is_line_of version t) steering_kinds || list_any (is_line_of version t) public_kinds

-- the fault of a line that no row's place is for, behind so many lines
abbrev pub stray : Version → ℕ → List ℕ → Misread
stray version lines t =
    if is_line version t then (if lines == 1 && is_line_of version t Sites then Twice (length t)
    else Order (length t)) else Bad (length t)

abbrev pub end_text : ℕ → List ℕ
end_text lines = codes "end " ++ (decimal lines ++ 10 ∷ [])

abbrev pub ended_with : Version → ℕ → List ℕ → Option (List ℕ) → Option Misread
ended_with version lines t None = Some (stray version lines t)
ended_with version lines t (Some []) = None
ended_with version lines t (Some (c ∷ cs)) = Some (Bad (suc (length cs)))

-- the fault at the end of so many lines, if there is one
unfoldable pub ended : Version → ℕ → List ℕ → Option Misread
ended version lines t = ended_with version lines t (after_text (end_text lines) t)

abbrev pub sum : List ℕ → ℕ
sum [] = 0
sum (n ∷ ns) = n + sum ns

abbrev pub total : {A : Type 0} → List (List A) → ℕ
total [] = 0
total (xs ∷ xss) = length xs + total xss

-- the rows of a dump
abbrev pub dump_at : Version → List ℕ → Result (List (List (List Field))) Misread
dump_at version t = rows_at version t >>= λ x. unless (ended version (total x.0) x.1) x.0

-- the line on which so many bytes are left
abbrev pub breaks : List ℕ → ℕ
breaks [] = 0
breaks (c ∷ cs) = if c == 10 then suc (breaks cs) else breaks cs

abbrev pub line_with_left : List ℕ → ℕ → ℕ
line_with_left t left = suc (breaks (take (length t - left) t))

abbrev pub fault_of : List ℕ → Misread → DumpFault
fault_of t (Bad left) = BadLine (line_with_left t left)
fault_of t (Order left) = OutOfOrder (line_with_left t left)
fault_of t (Twice left) = SameKey (line_with_left t left)
fault_of t NoMemory = OutOfMemory
