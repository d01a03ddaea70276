-- The grammars of single tokens.
use Rattle.std.specs.Prelude.{ℕ, Bool, true, false, ◌==◌, List, [], ◌∷◌, Option, Some, None, if◌then◌else◌}
use Rattle.std.specs.Cmp.Lexicographic.{pointwise}
use Rattle.ixp_num.specs.declared.addr.Addr.{Addr}
use Rattle.ixp_lang_tokens.specs.declared.token.Kind.{Kind}
use Rattle.ixp_lang_tokens.specs.declared.token.Kind.TheVariants as kind
use Rattle.ixp_lang_tokens.specs.declared.token.Mark.{Mark}
use Rattle.ixp_lang_tokens.specs.declared.token.Mark.TheVariants as mark
use Rattle.ixp_lang_tokens.specs.Grammars.{Grammar, takes}

-- marks are told apart by number
abbrev pub rank : Mark → ℕ
rank mark.Semicolon = 0
rank mark.Comma = 1
rank mark.Dot = 2
rank mark.Range = 3
rank mark.Colon = 4
rank mark.Open = 5
rank mark.Close = 6
rank mark.BlockOpen = 7
rank mark.BlockClose = 8
rank mark.SetOpen = 9
rank mark.SetClose = 10
rank mark.Equal = 11
rank mark.Unequal = 12
rank mark.Less = 13
rank mark.LessEqual = 14
rank mark.Greater = 15
rank mark.GreaterEqual = 16
rank mark.In = 17
rank mark.NotIn = 18
rank mark.Not = 19
rank mark.And = 20
rank mark.Or = 21
rank mark.Arrow = 22
rank mark.Plus = 23
rank mark.Minus = 24
rank mark.Star = 25
rank mark.Slash = 26

abbrev pub same_mark : Mark → Mark → Bool
same_mark a b = rank a == rank b

-- two words are the same bytes
abbrev pub same_word : List ℕ → List ℕ → Bool
same_word = pointwise (λ a b. a == b)

abbrev pub if_so : Bool → Option (Unit {0})
if_so true = Some tt
if_so false = None

-- this mark
abbrev pub is_mark : Mark → Kind → Bool
is_mark m (kind.Mark found) = same_mark found m
is_mark m _ = false

abbrev pub the_mark : Mark → Grammar (Unit {0})
the_mark m = takes (λ token. if_so (is_mark m token))

-- this keyword
abbrev pub is_word : List ℕ → Kind → Bool
is_word word (kind.Word found) = same_word found word
is_word word _ = false

abbrev pub the_word : List ℕ → Grammar (Unit {0})
the_word word = takes (λ token. if_so (is_word word token))

-- any name, number or address
abbrev pub name_in : Kind → Option (List ℕ)
name_in (kind.Name name) = Some name
name_in _ = None

abbrev pub a_name : Grammar (List ℕ)
a_name = takes name_in

abbrev pub number_in : Kind → Option ℕ
number_in (kind.Number number) = Some number
number_in _ = None

abbrev pub a_number : Grammar ℕ
a_number = takes number_in

abbrev pub addr_in : Kind → Option Addr
addr_in (kind.Addr addr) = Some addr
addr_in _ = None

abbrev pub an_addr : Grammar Addr
an_addr = takes addr_in

-- the first of the tokens is such a one
abbrev pub is_next : (Kind → Bool) → List Kind → Bool
is_next test [] = false
is_next test (token ∷ tokens) = test token

-- what follows the first token, if it is such a one
abbrev pub behind : (Kind → Bool) → List Kind → Option (List Kind)
behind test [] = None
behind test (token ∷ tokens) = if test token then Some tokens else None
