-- What is known of the single tokens of expressions.
use Rattle.std.proofs.Common.{◌≡◌, ℕ, Bool, true, false, ◌&&◌, ◌||◌, List, [], ◌∷◌, ◌++◌, codes, Option, Some, None, option_map, refl, if◌then◌else◌}
use Rattle.std.specs.Option.{is_some, option_or}
use Rattle.ixp_lang.specs.declared.expr.Attr.{Attr}
use Rattle.ixp_lang_tokens.specs.declared.token.Kind.{Kind}
use Rattle.ixp_lang_tokens.specs.declared.token.Kind.TheVariants as kind
use Rattle.ixp_lang_tokens.specs.declared.token.Mark.{Mark}
use Rattle.ixp_lang_tokens.specs.declared.token.Mark.TheVariants as mark
use Rattle.ixp_lang_tokens.specs.Grammars.{takes}
use Rattle.ixp_lang_tokens.specs.Pieces.{is_mark, same_word, if_so}
use Rattle.ixp_lang_tokens.proofs.Fronts.{Front, marked, keyword, number, addr, prefix, one_of, or_left, or_right, or_elim, fronts_left, fronts_right}
use Rattle.ixp_lang_tokens.proofs.Looks.{token_look, Known, known_takes}
use Rattle.ixp_lang_tokens.proofs.Known.{so_is, some_if}
use Rattle.ixp_lang_exprs.specs.Expressions.{Place, truth_in, state_in, attribute_in, part_in, is_path, word_in, literal_word, literal_in, Shape, may_go_on, may_end, part_end_in, is_front_word, is_front_mark, front_in, outside_define, check_word, operator_in}
use Rattle.ixp_lang_exprs.specs.Names.{is_define}

abbrev pub truths : List Front
truths = keyword (codes "true") ∷ keyword (codes "false") ∷ []

abbrev pub states : List Front
states = keyword (codes "ROA_VALID") ∷ keyword (codes "ROA_INVALID") ∷ keyword (codes "ROA_UNKNOWN") ∷ []

abbrev pub attributes : List Front
attributes =
    keyword (codes "net") ∷ keyword (codes "from") ∷ keyword (codes "bgp_next_hop") ∷ keyword (codes "bgp_path")
    ∷ keyword (codes "bgp_community") ∷ keyword (codes "bgp_large_community") ∷ []

abbrev pub parts : List Front
parts = keyword (codes "len") ∷ keyword (codes "first") ∷ keyword (codes "last") ∷ []

abbrev pub literals : List Front
literals =
    number ∷ addr ∷ prefix ∷ keyword (codes "true") ∷ keyword (codes "false")
    ∷ keyword (codes "ROA_VALID") ∷ keyword (codes "ROA_INVALID") ∷ keyword (codes "ROA_UNKNOWN") ∷ []

abbrev pub checks_word : List Front
checks_word = keyword (codes "roa_check") ∷ []

abbrev pub operators : List Front
operators =
    marked mark.Equal ∷ marked mark.Unequal ∷ marked mark.Less ∷ marked mark.LessEqual ∷ marked mark.Greater ∷ marked mark.GreaterEqual
    ∷ marked mark.In ∷ marked mark.NotIn ∷ []

truth_front : (w : List ℕ) → is_some (truth_in w) ≡ true → one_of truths (kind.Word w) ≡ true
truth_front w = some_if (same_word w (codes "true")) _ _ _ (some_if (same_word w (codes "false")) _ _ _ (λ e. e))

pub state_front : (w : List ℕ) → is_some (state_in w) ≡ true → one_of states (kind.Word w) ≡ true
state_front w =
    some_if (same_word w (codes "ROA_VALID")) _ _ _
    (some_if (same_word w (codes "ROA_INVALID")) _ _ _ (some_if (same_word w (codes "ROA_UNKNOWN")) _ _ _ (λ e. e)))

attribute_front : (w : List ℕ) → is_some (attribute_in w) ≡ true → one_of attributes (kind.Word w) ≡ true
attribute_front w =
    some_if (same_word w (codes "net")) _ _ _ (some_if (same_word w (codes "from")) _ _ _
    (some_if (same_word w (codes "bgp_next_hop")) _ _ _ (some_if (same_word w (codes "bgp_path")) _ _ _
    (some_if (same_word w (codes "bgp_community")) _ _ _ (some_if (same_word w (codes "bgp_large_community")) _ _ _ (λ e. e))))))

-- both must hold: it is enough that one does
and_if : {A : Type 0} (a b : Bool) (x : A) (others : Option A) (rest : Bool) → (is_some others ≡ true → rest ≡ true) → is_some (if a && b then Some x else others) ≡ true → (b || rest) ≡ true
and_if true b x others rest h e = some_if b x others rest h e
and_if false b x others rest h e = or_right b rest (h e)

part_front : (a : Attr) (w : List ℕ) → is_some (part_in a w) ≡ true → one_of parts (kind.Word w) ≡ true
part_front a w =
    some_if (same_word w (codes "len")) _ _ _
    (and_if (is_path a) (same_word w (codes "first")) _ _ _ (and_if (is_path a) (same_word w (codes "last")) _ _ _ (λ e. e)))

or_else_some : {A B C : Type 0} (o : Option A) (p : Option B) (f : A → C) (g : B → C) → is_some (option_or (option_map f o) (option_map g p)) ≡ true → (is_some o || is_some p) ≡ true
or_else_some (Some a) p f g e = refl
or_else_some None (Some b) f g e = refl
or_else_some None None f g e = e

-- a keyword of one list or of the other
either_word : (a b c d e : Bool) → ((a || (b || false)) || (c || (d || (e || false)))) ≡ true → (a || (b || (c || (d || (e || false))))) ≡ true
either_word true b c d e h = refl
either_word false true c d e h = refl
either_word false false c d e h = h

or_map : (a b c d : Bool) → (a ≡ true → c ≡ true) → (b ≡ true → d ≡ true) → (a || b) ≡ true → (c || d) ≡ true
or_map a b c d f g e = or_elim a b e (λ x. or_left c d (f x)) (λ x. or_right c d (g x))

literal_word_front : (w : List ℕ) → is_some (literal_word w) ≡ true → one_of literals (kind.Word w) ≡ true
literal_word_front w e =
    either_word (same_word w (codes "true")) (same_word w (codes "false")) (same_word w (codes "ROA_VALID")) (same_word w (codes "ROA_INVALID")) (same_word w (codes "ROA_UNKNOWN"))
    (or_map (is_some (truth_in w)) (is_some (state_in w)) (one_of truths (kind.Word w)) (one_of states (kind.Word w)) (truth_front w) (state_front w)
    (or_else_some (truth_in w) (state_in w) _ _ e))

literal_front : (k : Kind) → is_some (literal_in k) ≡ true → one_of literals k ≡ true
literal_front (kind.Number n) e = refl
literal_front (kind.Addr a) e = refl
literal_front (kind.Prefix p) e = refl
literal_front (kind.Word w) e = literal_word_front w e
literal_front k e = absurd cc

pub known_literal : Known (takes literal_in) (token_look literals)
known_literal = known_takes literal_in literals literal_front

pub word_front : {A : Type 0} (class : List ℕ → Option A) (fs : List Front) → ((w : List ℕ) → is_some (class w) ≡ true → one_of fs (kind.Word w) ≡ true) → (k : Kind) → is_some (word_in class k) ≡ true → one_of fs k ≡ true
word_front class fs h (kind.Word w) e = h w e
word_front class fs h k e = absurd cc

pub known_state : Known (takes (word_in state_in)) (token_look states)
known_state = known_takes _ states (word_front state_in states state_front)

pub known_part : (a : Attr) → Known (takes (word_in (part_in a))) (token_look parts)
known_part a = known_takes (word_in (part_in a)) parts (word_front (part_in a) parts (part_front a))

outside : {A : Type 0} (is_inside : Bool) (o : Option A) → is_some (if is_inside then None else o) ≡ true → is_some o ≡ true
outside true o e = absurd cc
outside false o e = e

pub known_attribute : (at : Place) → Known (takes (word_in (outside_define at attribute_in))) (token_look attributes)
known_attribute at = known_takes _ attributes (word_front (outside_define at attribute_in) attributes (λ w e. attribute_front w (outside (is_define at.scope) (attribute_in w) e)))

check_front : (w : List ℕ) → is_some (check_word w) ≡ true → one_of checks_word (kind.Word w) ≡ true
check_front w e = or_left (same_word w (codes "roa_check")) false (so_is _ e)

pub known_check : (at : Place) → Known (takes (word_in (outside_define at check_word))) (token_look checks_word)
known_check at = known_takes _ checks_word (word_front (outside_define at check_word) checks_word (λ w e. check_front w (outside (is_define at.scope) (check_word w) e)))

operator_mark : (m : Mark) → is_some (operator_in (kind.Mark m)) ≡ true → one_of operators (kind.Mark m) ≡ true
operator_mark mark.Equal e = refl
operator_mark mark.Unequal e = refl
operator_mark mark.Less e = refl
operator_mark mark.LessEqual e = refl
operator_mark mark.Greater e = refl
operator_mark mark.GreaterEqual e = refl
operator_mark mark.In e = refl
operator_mark mark.NotIn e = refl
operator_mark m e = absurd cc

operator_front : (k : Kind) → is_some (operator_in k) ≡ true → one_of operators k ≡ true
operator_front (kind.Mark m) e = operator_mark m e
operator_front k e = absurd cc

pub known_operator : Known (takes operator_in) (token_look operators)
known_operator = known_takes operator_in operators operator_front

abbrev pub part_ends : List Front
part_ends = marked mark.Comma ∷ marked mark.Close ∷ []

two_marks : (a b : Mark) (k : Kind) → (is_mark a k || (is_mark b k || false)) ≡ true → one_of (marked a ∷ marked b ∷ []) k ≡ true
two_marks a b (kind.Mark m) e = e
two_marks a b k e = absurd cc

part_end_front : (shape : Shape) (index : ℕ) (k : Kind) → is_some (part_end_in shape index k) ≡ true → one_of part_ends k ≡ true
part_end_front shape index k e =
    two_marks mark.Comma mark.Close k
    (and_if (may_go_on shape index) (is_mark mark.Comma k) _ _ _ (and_if (may_end shape index) (is_mark mark.Close k) _ _ _ (λ x. x)) e)

pub known_part_end : (shape : Shape) (index : ℕ) → Known (takes (part_end_in shape index)) (token_look part_ends)
known_part_end shape index = known_takes _ part_ends (part_end_front shape index)

-- what an operand may begin with, but a name
abbrev pub front_tokens : List Front
front_tokens = number ∷ addr ∷ prefix ∷ marked mark.Open ∷ marked mark.SetOpen ∷ marked mark.Not ∷ ((truths ++ states) ++ attributes) ++ checks_word

front_mark : (m : Mark) → is_some (if_so (is_front_mark m)) ≡ true → one_of front_tokens (kind.Mark m) ≡ true
front_mark mark.Open e = refl
front_mark mark.SetOpen e = refl
front_mark mark.Not e = refl
front_mark m e = absurd cc

or_lists : (k : Kind) (fs gs : List Front) (a b : Bool) → (a ≡ true → one_of fs k ≡ true) → (b ≡ true → one_of gs k ≡ true) → (a || b) ≡ true → one_of (fs ++ gs) k ≡ true
or_lists k fs gs a b f g e = or_elim a b e (λ x. fronts_left fs gs k (f x)) (λ x. fronts_right fs gs k (g x))

front_front : (k : Kind) → is_some (front_in k) ≡ true → one_of front_tokens k ≡ true
front_front (kind.Number n) e = refl
front_front (kind.Addr a) e = refl
front_front (kind.Prefix p) e = refl
front_front (kind.Mark m) e = front_mark m e
front_front (kind.Word w) e =
    or_lists (kind.Word w) ((truths ++ states) ++ attributes) checks_word _ _
    (or_lists (kind.Word w) (truths ++ states) attributes _ _ (or_lists (kind.Word w) truths states _ _ (truth_front w) (state_front w)) (attribute_front w))
    (λ x. or_left _ false x) (so_is (is_front_word w) e)
front_front k e = absurd cc

pub known_front_token : Known (takes front_in) (token_look front_tokens)
known_front_token = known_takes front_in front_tokens front_front
