-- Expressions (BIRD 2 User's Guide, chapter "Filters", expressions), with their types and what names stand
-- for.
use Rattle.std.specs.Prelude.{ℕ, zero, suc, Bool, true, false, ◌&&◌, ◌||◌, ◌==◌, not, nat_le, nat_lt, List, [], ◌∷◌, ◌++◌, length, codes, Option, Some, None, option_map, if◌then◌else◌}
use Rattle.std.specs.Option.{is_some, is_none, option_or}
use Rattle.ixp_num.specs.declared.roa.Validity.{Validity}
use Rattle.ixp_num.specs.declared.roa.Validity.TheVariants.{Valid, Invalid, Unknown as Not_found}
use Rattle.ixp_lang.specs.Trees.{ExprTree, literal, named, attribute, call, roa_check, set_literal, conjunction, disjunction, ExprTrees, exprs}
use Rattle.ixp_lang.specs.declared.value.Value.TheVariants as value
use Rattle.ixp_lang.specs.declared.expr.Attr.{Attr}
use Rattle.ixp_lang.specs.declared.expr.Attr.TheVariants as attr
use Rattle.ixp_lang.specs.declared.expr.Op.{Op}
use Rattle.ixp_lang.specs.declared.expr.Op.TheVariants as op
use Rattle.ixp_lang_tokens.specs.declared.fault.Cause.{Cause}
use Rattle.ixp_lang_tokens.specs.declared.fault.Cause.TheVariants.{Unexpected, Unknown, Mixed, Deep}
use Rattle.ixp_lang_tokens.specs.declared.token.Kind.{Kind}
use Rattle.ixp_lang_tokens.specs.declared.token.Kind.TheVariants as kind
use Rattle.ixp_lang_tokens.specs.declared.token.Mark.{Mark}
use Rattle.ixp_lang_tokens.specs.declared.token.Mark.TheVariants as mark
use Rattle.ixp_lang_tokens.specs.Grammars.{Grammar, gives, takes, sequence, choice, rounds, checks, bars, here, Step, onward, done}
use Rattle.ixp_lang_tokens.specs.Pieces.{the_mark, is_mark, is_next, if_so, is_word, same_word, a_name}
use Rattle.ixp_lang_exprs.specs.declared.wanted.Wanted.{Wanted}
use Rattle.ixp_lang_exprs.specs.declared.types.ValueType.{ValueType}
use Rattle.ixp_lang_exprs.specs.declared.types.ValueType.TheVariants.{Int, Bool as Truth, Ip, Prefix, Pair, Triple, State}
use Rattle.ixp_lang_exprs.specs.declared.env.Signature.{Signature}
use Rattle.ixp_lang_exprs.specs.declared.env.Declared.{Declared}
use Rattle.ixp_lang_exprs.specs.declared.env.Declared.TheVariants.{Table, Parameter}
use Rattle.ixp_lang_exprs.specs.declared.context.Scope.{Scope}
use Rattle.ixp_lang_exprs.specs.Types.{attribute_type, same_type}
use Rattle.ixp_lang_exprs.specs.Names.{Names, function_of, value_of, is_define}
use Rattle.ixp_lang_exprs.specs.Lists.{never, only, ended}
use Rattle.ixp_lang_exprs.specs.Sets.{if_missing, unless_so, part_too_great, elements}
use Rattle.ixp_lang_exprs.specs.Operands.{Operand, closed, misfit_at, settled, fits, fits_left, anything, one_type, in_vain, no_truth, refused_now, fits_negation, negated, compared_operand, literal_number, pair_tree, triple_tree}

-- Where an expression stands: what names stand for, what it is a part of, and how many tokens are left at the
-- first token of its statement or definition.
pub record Place : Type 0 where
  pub names : Names
  pub scope : Scope
  pub statement : ℕ

-- Words.

abbrev pub truth_in : List ℕ → Option Bool
truth_in word = if same_word word (codes "true") then Some true
    else (if same_word word (codes "false") then Some false else None)

abbrev pub state_in : List ℕ → Option Validity
state_in word =
    if same_word word (codes "ROA_VALID") then Some Valid else
    (if same_word word (codes "ROA_INVALID") then Some Invalid else
    (if same_word word (codes "ROA_UNKNOWN") then Some Not_found else None))

-- the attribute that the keyword is by itself
abbrev pub attribute_in : List ℕ → Option Attr
attribute_in word =
    if same_word word (codes "net") then Some attr.Net else
    (if same_word word (codes "from") then Some attr.From else
    (if same_word word (codes "bgp_next_hop") then Some attr.NextHop else
    (if same_word word (codes "bgp_path") then Some attr.Path else
    (if same_word word (codes "bgp_community") then Some attr.Pairs else
    (if same_word word (codes "bgp_large_community") then Some attr.Triples else None)))))

-- a `.` may follow the attribute
abbrev pub has_parts : Attr → Bool
has_parts attr.Net = true
has_parts attr.Path = true
has_parts attr.Pairs = true
has_parts attr.Triples = true
has_parts _ = false

abbrev pub length_of : Attr → Attr
length_of attr.Net = attr.NetLen
length_of attr.Path = attr.Len
length_of attr.Pairs = attr.PairsLen
length_of _ = attr.TriplesLen

abbrev pub is_path : Attr → Bool
is_path attr.Path = true
is_path _ = false

-- the part of the attribute that has the word
abbrev pub part_in : Attr → List ℕ → Option Attr
part_in a word =
    if same_word word (codes "len") then Some (length_of a) else
    (if is_path a && same_word word (codes "first") then Some attr.First else
    (if is_path a && same_word word (codes "last") then Some attr.Last else None))

abbrev pub word_in : {A : Type 0} → (List ℕ → Option A) → Kind → Option A
word_in class (kind.Word word) = class word
word_in class _ = None

-- Operands without parentheses.

abbrev pub literal_word : List ℕ → Option Operand
literal_word word =
    option_or (option_map (λ b. closed (literal (value.Bool b)) Truth) (truth_in word))
    (option_map (λ s. closed (literal (value.Roa s)) State) (state_in word))

abbrev pub literal_in : Kind → Option Operand
literal_in (kind.Number number) = Some (closed (literal (value.Int number)) Int)
literal_in (kind.Addr addr) = Some (closed (literal (value.Ip addr)) Ip)
literal_in (kind.Prefix prefix) = Some (closed (literal (value.Net prefix)) Prefix)
literal_in (kind.Word word) = literal_word word
literal_in _ = None

abbrev pub bare_attribute : Attr → Operand
bare_attribute attr =
    record { tree = attribute attr; ty = attribute_type attr; is_open = has_parts attr; misfit = None }

-- an attribute, which a dot and a word make another one; neither stands where it is in vain
abbrev pub attribute_form : Wanted → Attr → Grammar Operand
attribute_form wanted attr =
    checks (in_vain wanted (bare_attribute attr))
    (choice (only (has_parts attr) (sequence (the_mark mark.Dot) (λ tt. sequence
    (takes (word_in (part_in attr))) (λ part. gives (closed (attribute part) (attribute_type part))))))
    (gives (bare_attribute attr)))

-- Why a name that is no value stands in vain. What a definition calls is no name of the wrong sort: no text
-- calls there.
abbrev pub no_value : Place → List ℕ → ℕ → Cause × ℕ
no_value at name left = if is_define at.scope && is_some (function_of (at.names name)) then (Unexpected, left)
    else (Unknown, left)

abbrev pub type_or : Option ValueType → ValueType
type_or (Some ty) = ty
type_or None = Truth

abbrev pub named_value : Place → List ℕ → ℕ → Grammar Operand
named_value at name left =
    checks (if_missing (value_of at.scope (at.names name)) (no_value at name left))
    (gives (closed (named name) (type_or (value_of at.scope (at.names name)))))

-- What stands in parentheses: one expression or a tuple; a call's arguments, by their types; the two values
-- of `roa_check`.
pub data Shape : Type 0 where
  plain : Shape
  arguments : List ValueType → Shape
  roa_values : Shape

-- a comma may follow the part of this index
abbrev pub may_go_on : Shape → ℕ → Bool
may_go_on plain index = nat_lt index 2
may_go_on (arguments params) index = true
may_go_on roa_values index = nat_lt index 1

-- the parenthesis may end behind it
abbrev pub may_end : Shape → ℕ → Bool
may_end plain index = true
may_end (arguments params) index = true
may_end roa_values index = index == 1

-- the token behind a part: whether it is the last part
abbrev pub part_end_in : Shape → ℕ → Kind → Option Bool
part_end_in shape index token =
    if may_go_on shape index && is_mark mark.Comma token then Some false else
    (if may_end shape index && is_mark mark.Close token then Some true else None)

-- the argument has its parameter's type, and is the last one where that one is
abbrev pub fits_argument : List ValueType → ℕ → Bool → Operand → ℕ → Option (Cause × ℕ)
fits_argument [] index is_last part place = Some (misfit_at place)
fits_argument (wanted ∷ []) zero is_last part place =
    option_or (fits part wanted place) (unless_so is_last (misfit_at place))
fits_argument (wanted ∷ other ∷ others) zero is_last part place =
    option_or (fits part wanted place) (unless_so (not is_last) (misfit_at place))
fits_argument (wanted ∷ others) (suc index) is_last part place = fits_argument others index is_last part place

-- the parts so far, how many tokens were left at the first one, and the last one's type
pub record Parts : Type 0 where
  pub trees : List ExprTree
  pub first : ℕ
  pub ty : ValueType

abbrev pub no_parts : ℕ → Parts
no_parts left = record { trees = []; first = left; ty = Truth }

abbrev pub with_part : Parts → Operand → Parts
with_part parts operand = record {
  trees = parts.trees ++ operand.tree ∷ [];
  first = parts.first;
  ty = operand.ty;
}

abbrev pub too_great_if : Option ℕ → ℕ → Option (Cause × ℕ)
too_great_if = part_too_great

-- a literal part of a pair must be small enough
abbrev pub fits_pair : ExprTree → ℕ → Option (Cause × ℕ)
fits_pair tree left = too_great_if (literal_number tree) left

-- what one expression in parentheses, or a part of a tuple, must be, with the parts before it
abbrev pub fits_plain : List ExprTree → ℕ → Bool → Operand → ℕ → ℕ → Option (Cause × ℕ)
fits_plain [] first true part left place = settled part
fits_plain [] first false part left place = fits part Int place
fits_plain (a ∷ []) first true part left place =
    option_or (fits_pair a first) (option_or (fits_pair part.tree left) (fits part Int place))
fits_plain (a ∷ []) first false part left place = fits part Int place
fits_plain (a ∷ b ∷ others) first is_last part left place = fits part Int place

-- the next part fits, at which so many tokens were left; misfits are at the place
abbrev pub fits_next : Shape → Parts → Bool → Operand → ℕ → ℕ → Option (Cause × ℕ)
fits_next (arguments params) before is_last part left place =
    fits_argument params (length before.trees) is_last part place
fits_next roa_values before is_last part left place =
    fits part (if length before.trees == 0 then Prefix else Int) place
fits_next plain before is_last part left place = fits_plain before.trees before.first is_last part left place

abbrev pub ends_with : Bool → Parts → Step Parts Parts
ends_with true parts = done parts
ends_with false parts = onward parts

-- what ends a part that began where so many tokens were left
abbrev pub part_ending : Shape → ℕ → ℕ → Parts → Operand → Grammar (Step Parts Parts)
part_ending shape place left before operand =
    sequence (takes (part_end_in shape (length before.trees))) (λ is_last.
    checks (fits_next shape before is_last operand left place)
    (gives (ends_with is_last (with_part before operand))))

-- what is wanted of the argument of this index
abbrev pub argument_wanted : List ValueType → ℕ → ℕ → Wanted
argument_wanted [] index place = anything
argument_wanted (ty ∷ others) zero place = one_type ty place
argument_wanted (ty ∷ others) (suc index) place = argument_wanted others index place

-- what is wanted of the part of this index; misfits are at the place
abbrev pub wanted_part : Shape → ℕ → ℕ → Wanted
wanted_part plain index place = if index == 0 then anything else one_type Int place
wanted_part (arguments params) index place = argument_wanted params index place
wanted_part roa_values index place = one_type (if index == 0 then Prefix else Int) place

-- one part, and what ends it
abbrev pub part_form : (Wanted → Grammar Operand) → Shape → ℕ → Parts → Grammar (Step Parts Parts)
part_form expression shape place before =
    here (λ left. sequence (expression (wanted_part shape (length before.trees) place))
    (λ operand. part_ending shape place left before operand))

abbrev pub some_parts : (Wanted → Grammar Operand) → Shape → ℕ → Grammar Parts
some_parts expression shape place = here (λ left. rounds (part_form expression shape place) (no_parts left))

-- what an operand may begin with, as far as the first token tells
abbrev pub is_front_word : List ℕ → Bool
is_front_word word = is_some (truth_in word) || is_some (state_in word) || is_some (attribute_in word)
    || same_word word (codes "roa_check")

abbrev pub is_front_mark : Mark → Bool
is_front_mark mark.Open = true
is_front_mark mark.SetOpen = true
is_front_mark mark.Not = true
is_front_mark _ = false

abbrev pub front_in : Kind → Option (Unit {0})
front_in (kind.Number number) = Some tt
front_in (kind.Addr addr) = Some tt
front_in (kind.Prefix prefix) = Some tt
front_in (kind.Mark m) = if_so (is_front_mark m)
front_in (kind.Word word) = if_so (is_front_word word)
front_in _ = None

abbrev pub is_operand_name : Place → List ℕ → Bool
is_operand_name at name = is_some (value_of at.scope (at.names name)) || is_some (function_of (at.names name))

-- the first token of an operand
abbrev pub front : Place → Grammar (Unit {0})
front at =
    choice (takes front_in) (here (λ left. sequence a_name
    (λ name. checks (unless_so (is_operand_name at name) (no_value at name left)) (gives tt))))

-- what is enclosed, up to the end of the parenthesis; a function without parameters has nothing there
abbrev pub enclosed : Place → (Wanted → Grammar Operand) → Shape → ℕ → Grammar Parts
enclosed at expression (arguments []) place =
    here (λ left. choice (ended mark.Close (no_parts left))
    (sequence (front at) (λ tt. checks (Some (misfit_at place)) (gives (no_parts left)))))
enclosed at expression (arguments (p ∷ ps)) place =
    choice (sequence (the_mark mark.Close) (λ tt. checks (Some (misfit_at place)) (gives (no_parts 0))))
    (some_parts expression (arguments (p ∷ ps)) place)
enclosed at expression plain place = some_parts expression plain place
enclosed at expression roa_values place = some_parts expression roa_values place

-- one expression as it is, or the tuple of two or three
abbrev pub plain_tree : List ExprTree → ValueType → Operand
plain_tree [] ty = closed (literal (value.Bool false)) Truth
plain_tree (a ∷ []) ty = closed a ty
plain_tree (a ∷ b ∷ []) ty = closed (pair_tree a b) Pair
plain_tree (a ∷ b ∷ c ∷ others) ty = closed (triple_tree a b c) Triple

abbrev pub plain_operand : Parts → Operand
plain_operand parts = plain_tree parts.trees parts.ty

abbrev pub check_tree : List ℕ → List ExprTree → ExprTree
check_tree table (net ∷ origin ∷ others) = roa_check table net origin
check_tree table (net ∷ []) = literal (value.Bool false)
check_tree table [] = literal (value.Bool false)

-- the name of a ROA table; the place is that of `roa_check`
abbrev pub no_roa_table : Option Declared → ℕ → ℕ → Option (Cause × ℕ)
no_roa_table None left place = Some (Unknown, left)
no_roa_table (Some (Parameter function ty)) left place = Some (Unknown, left)
no_roa_table (Some (Table table)) left place = unless_so table.is_roa (misfit_at place)
no_roa_table (Some _) left place = Some (misfit_at place)

abbrev pub roa_table : Place → ℕ → Grammar (List ℕ)
roa_table at place =
    here (λ left. sequence a_name (λ name. checks (no_roa_table (at.names name) left place) (gives name)))

-- the function that an expression may call by this name
abbrev pub called : Place → List ℕ → Option Signature
called at name = if is_define at.scope then None else function_of (at.names name)

-- Operators.

abbrev pub operator_in : Kind → Option Op
operator_in (kind.Mark mark.Equal) = Some op.Eq
operator_in (kind.Mark mark.Unequal) = Some op.Ne
operator_in (kind.Mark mark.Less) = Some op.Lt
operator_in (kind.Mark mark.LessEqual) = Some op.Le
operator_in (kind.Mark mark.Greater) = Some op.Gt
operator_in (kind.Mark mark.GreaterEqual) = Some op.Ge
operator_in (kind.Mark mark.In) = Some op.In
operator_in (kind.Mark mark.NotIn) = Some op.NotIn
operator_in _ = None

-- a chain as far as it is read: its parts, and how many tokens were left at the joint before the next one
pub record Chain : Type 0 where
  pub parts : List ExprTree
  pub place : ℕ

abbrev pub begun_with : Operand → ℕ → Chain
begun_with first place = record { parts = first.tree ∷ []; place = place }

abbrev pub longer : Chain → Operand → ℕ → Chain
longer chain part place = record { parts = chain.parts ++ part.tree ∷ []; place = place }

-- a part's misfit, which waits for the token behind it: one that waited, or at the joint before the part
abbrev pub part_misfit : Operand → ℕ → Option ℕ
part_misfit part place = option_or part.misfit (if same_type part.ty Truth then None else Some place)

abbrev pub chained : (ExprTrees → ExprTree) → Chain → Operand → Operand
chained joined chain last =
    record {
      tree = joined (exprs (chain.parts ++ last.tree ∷ []));
      ty = Truth;
      is_open = false;
      misfit = part_misfit last chain.place;
    }

-- what follows a part: the joint before one more, or the end of the chain; the other joint can't stand there
abbrev pub part_joint : Mark → Mark → (ExprTrees → ExprTree) → Chain → Operand → Grammar (Step Chain Operand)
part_joint joint other joined chain part =
    here (λ place.
    bars (is_next (is_mark other)) Mixed
    (choice
    (sequence (the_mark joint) (λ tt. checks (option_map misfit_at (part_misfit part chain.place))
    (gives (onward (longer chain part place)))))
    (gives (done (chained joined chain part)))))

-- Over what stands alone at a level, `unary`, where an expression that begins with it is wanted.
module _ (unary : Wanted → Grammar Operand) where
  -- an operand, or a comparison of two
  abbrev pub comparison_of : Wanted → Grammar Operand
  comparison_of wanted =
      sequence (unary wanted) (λ left.
      checks (in_vain wanted left)
      (here (λ place.
      choice
      (sequence (takes operator_in) (λ op.
      checks (option_or (fits_left op left place) (no_truth wanted))
      (sequence (unary anything) (λ right. checks (refused_now op left right place)
      (gives (compared_operand op left right place))))))
      (gives left))))

  -- one more part of a chain, and whether the chain goes on
  abbrev pub chain_part : Mark → Mark → (ExprTrees → ExprTree) → Chain → Grammar (Step Chain Operand)
  chain_part joint other joined chain =
      sequence (comparison_of (one_type Truth chain.place)) (λ part. part_joint joint other joined chain part)

  -- the chain of these joints that goes on from this part
  abbrev pub chain_of : Mark → Mark → (ExprTrees → ExprTree) → Operand → ℕ → Grammar Operand
  chain_of joint other joined first place =
      sequence (the_mark joint) (λ tt. checks (fits first Truth place)
      (rounds (chain_part joint other joined) (begun_with first place)))

  -- a comparison or an operand, or a chain of them
  abbrev pub expression_of : Wanted → Grammar Operand
  expression_of wanted =
      sequence (comparison_of wanted) (λ first.
      here (λ place.
      choice (chain_of mark.And mark.Or conjunction first place)
      (choice (chain_of mark.Or mark.And disjunction first place)
      (gives first))))

-- what stands alone one level deeper, if a level is left
pub data Deeper : Type 1 where
  nothing : Deeper
  deeper : (Wanted → Grammar Operand) → Deeper

abbrev pub is_left : Deeper → Bool
is_left nothing = false
is_left (deeper unary) = true

-- a mark that opens a level, and what stands behind it
abbrev pub opened : {A : Type 0} → Mark → Deeper → ((Wanted → Grammar Operand) → Grammar A) → Grammar A
opened mark (deeper unary) f = sequence (the_mark mark) (λ tt. f unary)
opened mark nothing f = bars (is_next (is_mark mark)) Deep never

abbrev pub negation_form : Deeper → Grammar Operand
negation_form inner =
    here (λ place.
    opened mark.Not inner (λ unary.
    sequence (unary anything) (λ operand. checks (fits_negation operand place) (gives (negated operand)))))

-- an expression in parentheses, a pair or a triple
abbrev pub plain_form : Place → Deeper → Grammar Operand
plain_form at inner =
    opened mark.Open inner (λ unary. sequence (enclosed at (expression_of unary) plain at.statement)
    (λ parts. gives (plain_operand parts)))

abbrev pub call_form : Place → Deeper → List ℕ → ℕ → Signature → Grammar Operand
call_form at inner name place signature =
    checks (if_missing signature.returns (misfit_at place))
    (opened mark.Open inner (λ unary.
    sequence (enclosed at (expression_of unary) (arguments signature.params) place) (λ parts.
    gives (closed (call name (exprs parts.trees)) (type_or signature.returns)))))

abbrev pub name_form : Place → Deeper → List ℕ → ℕ → Option Signature → Grammar Operand
name_form at inner name place (Some signature) = call_form at inner name place signature
name_form at inner name place None = named_value at name place

-- a value that has a name, or a call
abbrev pub named_form : Place → Deeper → Grammar Operand
named_form at inner = here (λ place. sequence a_name (λ name. name_form at inner name place (called at name)))

-- the words that stand in no definition
abbrev pub outside_define : {A : Type 0} → Place → (List ℕ → Option A) → List ℕ → Option A
outside_define at class word = if is_define at.scope then None else class word

abbrev pub check_word : List ℕ → Option (Unit {0})
check_word word = if_so (same_word word (codes "roa_check"))

-- what stands behind `roa_check`
abbrev pub checked_form : Place → Deeper → ℕ → Grammar Operand
checked_form at inner place =
    opened mark.Open inner (λ unary.
    sequence (roa_table at place) (λ table.
    sequence (the_mark mark.Comma) (λ tt.
    sequence (enclosed at (expression_of unary) roa_values place)
    (λ parts. gives (closed (check_tree table parts.trees) State)))))

abbrev pub check_form : Place → Deeper → Grammar Operand
check_form at inner = here (λ place. sequence (takes (word_in (outside_define at check_word)))
    (λ tt. checked_form at inner place))

abbrev pub set_form : Place → Deeper → Grammar Operand
set_form at inner =
    sequence (the_mark mark.SetOpen) (λ tt. sequence (elements at.names (is_left inner))
    (λ s. gives (closed (set_literal s.0) s.1)))

-- what stands alone
unfoldable pub operand_form : Place → Deeper → Wanted → Grammar Operand
operand_form at inner wanted =
    choice (negation_form inner)
    (choice (plain_form at inner)
    (choice (check_form at inner)
    (choice (named_form at inner)
    (choice (takes literal_in)
    (choice (sequence (takes (word_in (outside_define at attribute_in))) (attribute_form wanted))
    (set_form at inner))))))

-- what stands alone, with so many levels below it at most
abbrev pub unary_form : Place → ℕ → Wanted → Grammar Operand
unary_form at zero = operand_form at nothing
unary_form at (suc levels) = operand_form at (deeper (unary_form at levels))

-- An expression, with so many levels below it at most. Its first operand alone is tested against what is
-- wanted of it, as far as no token behind could help, an attribute before a dot is read; what may stand
-- behind the expression is tested before its type is.
abbrev pub expression_form : Place → ℕ → Wanted → Grammar Operand
expression_form at levels wanted = expression_of (unary_form at levels) wanted
