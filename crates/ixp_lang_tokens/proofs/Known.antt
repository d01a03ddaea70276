-- What is known of the grammars of single tokens.
use Rattle.std.proofs.Common.{◌≡◌, ℕ, Bool, true, false, ◌||◌, List, [], ◌∷◌, Option, Some, refl, if◌then◌else◌}
use Rattle.std.specs.Option.{is_some}
use Rattle.ixp_lang_tokens.specs.declared.token.Kind.{Kind}
use Rattle.ixp_lang_tokens.specs.declared.token.Kind.TheVariants as kind
use Rattle.ixp_lang_tokens.specs.declared.token.Mark.{Mark}
use Rattle.ixp_lang_tokens.specs.Pieces.{if_so, is_mark, the_mark, is_word, the_word, name_in, a_name, number_in, a_number, addr_in, an_addr, is_next}
use Rattle.ixp_lang_tokens.proofs.Fronts.{marked, keyword, name, number, addr, one_of, Starts, or_left}
use Rattle.ixp_lang_tokens.proofs.Looks.{Known, token_look, known_takes}

pub so_is : (b : Bool) → is_some (if_so b) ≡ true → b ≡ true
so_is true e = refl
so_is false e = absurd cc

-- a test that is another one, or one of others
pub some_if : {A : Type 0} (b : Bool) (x : A) (others : Option A) (rest : Bool) → (is_some others ≡ true → rest ≡ true) → is_some (if b then Some x else others) ≡ true → (b || rest) ≡ true
some_if true x others rest h e = refl
some_if false x others rest h e = h e

pub mark_front : (m : Mark) (k : Kind) → is_mark m k ≡ true → one_of (marked m ∷ []) k ≡ true
mark_front m (kind.Mark found) e = or_left _ false e
mark_front m k e = absurd cc

pub known_mark : (m : Mark) → Known (the_mark m) (token_look (marked m ∷ []))
known_mark m = known_takes _ (marked m ∷ []) (λ k e. mark_front m k (so_is (is_mark m k) e))

word_front : (w : List ℕ) (k : Kind) → is_word w k ≡ true → one_of (keyword w ∷ []) k ≡ true
word_front w k e = or_left (is_word w k) false e

pub known_word : (w : List ℕ) → Known (the_word w) (token_look (keyword w ∷ []))
known_word w = known_takes _ (keyword w ∷ []) (λ k e. word_front w k (so_is (is_word w k) e))

name_front : (k : Kind) → is_some (name_in k) ≡ true → one_of (name ∷ []) k ≡ true
name_front (kind.Name n) e = refl
name_front k e = absurd cc

pub known_name : Known a_name (token_look (name ∷ []))
known_name = known_takes name_in (name ∷ []) name_front

number_front : (k : Kind) → is_some (number_in k) ≡ true → one_of (number ∷ []) k ≡ true
number_front (kind.Number n) e = refl
number_front k e = absurd cc

pub known_number : Known a_number (token_look (number ∷ []))
known_number = known_takes number_in (number ∷ []) number_front

addr_front : (k : Kind) → is_some (addr_in k) ≡ true → one_of (addr ∷ []) k ≡ true
addr_front (kind.Addr a) e = refl
addr_front k e = absurd cc

pub known_addr : Known an_addr (token_look (addr ∷ []))
known_addr = known_takes addr_in (addr ∷ []) addr_front

-- a mark that is next
pub next_mark : (m : Mark) (ts : List Kind) → is_next (is_mark m) ts ≡ true → Starts (marked m ∷ []) ts
next_mark m [] e = absurd cc
next_mark m (k ∷ ts) e = mark_front m k e
