-- Operands that are single tokens, attributes and sets: what says them at all, says them by their canonical tokens.
use Rattle.std.proofs.Common.{◌≡◌, ℕ, ◌⊎◌, inl, inr, Bool, true, false, List, ◌∷◌, codes, Option, Some, None, option_map, refl, ap, ◌∙◌, if◌then◌else◌}
use Rattle.ixp_lang_tokens.specs.declared.token.Kind.{Kind}
use Rattle.ixp_lang_tokens.specs.declared.token.Kind.TheVariants as kind
use Rattle.ixp_lang_tokens.specs.declared.token.Mark.TheVariants as mark
use Rattle.ixp_lang_tokens.specs.Grammars.{gives, takes, sequence, Took}
use Rattle.ixp_lang_tokens.specs.Pieces.{the_mark}
use Rattle.ixp_num.specs.declared.roa.Validity.{Validity}
use Rattle.ixp_num.specs.declared.roa.Validity.TheVariants.{Valid, Invalid, Unknown}
use Rattle.ixp_lang.specs.Trees.{literal, attribute}
use Rattle.ixp_lang.specs.declared.value.Value.{Value}
use Rattle.ixp_lang.specs.declared.value.Value.TheVariants as value
use Rattle.ixp_lang.specs.declared.expr.Attr.{Attr}
use Rattle.ixp_lang.specs.declared.expr.Attr.TheVariants as attr
use Rattle.ixp_lang_exprs.specs.declared.types.ValueType.{ValueType}
use Rattle.ixp_lang_exprs.specs.declared.types.ValueType.TheVariants.{Int, Bool as Truth, Ip, Prefix, State}
use Rattle.ixp_lang_exprs.specs.declared.wanted.Wanted.{Wanted}
use Rattle.ixp_lang_exprs.specs.Types.{attribute_type}
use Rattle.ixp_lang_exprs.specs.Names.{is_define}
use Rattle.ixp_lang_exprs.specs.Lists.{only}
use Rattle.ixp_lang_exprs.specs.Operands.{Operand, closed}
use Rattle.ixp_lang_exprs.specs.Expressions.{Place, word_in, truth_in, state_in, literal_word, literal_in, has_parts, part_in, attribute_in, attribute_form, outside_define}
use Rattle.ixp_print.specs.Texts.{bool_text, state_text}
use Rattle.ixp_lang_laws.specs.Canonical.{value_tokens, attr_tokens}
use Rattle.ixp_lang_laws.proofs.Basics.{sound, never_took, Begins, attribute_hope, part_hope}
use Rattle.ixp_lang_laws.proofs.SaidBasics.{either_some}

-- Literals.

pub mapped : {A : Type 0} (f : A → Operand) (x : Option A) (o : Operand) → option_map f x ≡ Some o → (a : A) × (o ≡ f a)
mapped f None o e = absurd cc
mapped f (Some a) o e = (a, (let h : o ≡ f a = cc in h))

-- a literal of one token
abbrev pub OneToken : Operand → Type 0
OneToken o =
    (v : Value) × (t : ValueType) × (o ≡ closed (literal v) t) × (k : Kind) × (literal_in k ≡ Some (closed (literal v) t)) × ((rest : List Kind) → value_tokens v rest ≡ k ∷ rest)

pub of_truth : (b : Bool) → literal_in (kind.Word (bool_text b)) ≡ Some (closed (literal (value.Bool b)) Truth)
of_truth true = refl
of_truth false = refl

pub of_state : (s : Validity) → literal_in (kind.Word (state_text s)) ≡ Some (closed (literal (value.Roa s)) State)
of_state Valid = refl
of_state Invalid = refl
of_state Unknown = refl

word_again : (w : List ℕ) (o : Operand) → literal_word w ≡ Some o → OneToken o
word_again w o e = by_case (either_some _ _ o e)
  where
    by_truth : (b : Bool) × (o ≡ closed (literal (value.Bool b)) Truth) → OneToken o
    by_truth (b, is) = (value.Bool b, Truth, is, kind.Word (bool_text b), of_truth b, λ rest. refl)

    by_state : (s : Validity) × (o ≡ closed (literal (value.Roa s)) State) → OneToken o
    by_state (s, is) = (value.Roa s, State, is, kind.Word (state_text s), of_state s, λ rest. refl)

    by_case : (option_map (λ b. closed (literal (value.Bool b)) Truth) (truth_in w) ≡ Some o) ⊎ (option_map (λ s. closed (literal (value.Roa s)) State) (state_in w) ≡ Some o) → OneToken o
    by_case (inl is) = by_truth (mapped _ (truth_in w) o is)
    by_case (inr is) = by_state (mapped _ (state_in w) o is)

pub literal_again : (k : Kind) (o : Operand) → literal_in k ≡ Some o → OneToken o
literal_again (kind.Number n) o e = (value.Int n, Int, (let h : o ≡ closed (literal (value.Int n)) Int = cc in h), kind.Number n, refl, λ rest. refl)
literal_again (kind.Addr a) o e = (value.Ip a, Ip, (let h : o ≡ closed (literal (value.Ip a)) Ip = cc in h), kind.Addr a, refl, λ rest. refl)
literal_again (kind.Prefix p) o e = (value.Net p, Prefix, (let h : o ≡ closed (literal (value.Net p)) Prefix = cc in h), kind.Prefix p, refl, λ rest. refl)
literal_again (kind.Word w) o e = word_again w o e
literal_again _ o e = absurd cc

-- Attributes.

pub outside_again : {A : Type 0} (at : Place) (class : List ℕ → Option A) (w : List ℕ) (a : A) → is_define at.scope ≡ false → class w ≡ Some a → word_in (outside_define at class) (kind.Word w) ≡ Some a
outside_again at class w a outside e = ap (λ b. if b then None else class w) outside ∙ e

outside_so : {A : Type 0} (b : Bool) (x : Option A) (a : A) → (if b then None else x) ≡ Some a → b ≡ false
outside_so true x a e = absurd cc
outside_so false x a e = refl

-- it stands in no definition
pub outside_is : {A : Type 0} (at : Place) (class : List ℕ → Option A) (k : Kind) (a : A) → word_in (outside_define at class) k ≡ Some a → is_define at.scope ≡ false
outside_is at class (kind.Word w) a e = outside_so (is_define at.scope) (class w) a e
outside_is at class _ a e = absurd cc

abbrev pub is_attribute : Operand → Type 0
is_attribute o = (a : Attr) × (o.tree ≡ attribute a) × (o.ty ≡ attribute_type a)

pub attribute_is : (wanted : Wanted) (a : Attr) (o : Operand) (ts rest : List Kind) → Took (attribute_form wanted a) o ts rest → is_attribute o
attribute_is wanted a o ts rest (hope, inr (is, same)) = (a, ap (λ x. x.tree) is, ap (λ x. x.ty) is)
attribute_is wanted a o ts rest (hope, inl took) = by_parts (has_parts a) took
  where
    by_parts : (b : Bool)
        → Took (only b (sequence (the_mark mark.Dot) (λ tt. sequence (takes (word_in (part_in a))) (λ part. gives (closed (attribute part) (attribute_type part)))))) o ts rest → is_attribute o
    by_parts true (x, others, dot, (part, more, word, (is, same))) = (part, ap (λ x. x.tree) is, ap (λ x. x.ty) is)
    by_parts false never = absurd (never_took o ts rest never)

pub attribute_again : (at : Place) (wanted : Wanted) (a : Attr) → is_define at.scope ≡ false → Begins wanted (attribute_type a) → (rest : List Kind)
    → Took (sequence (takes (word_in (outside_define at attribute_in))) (attribute_form wanted)) (sound (attribute a) (attribute_type a) (has_parts a)) (attr_tokens a rest) rest
attribute_again at wanted attr.Net out begins rest = (attr.Net, _, (outside_again at attribute_in (codes "net") attr.Net out refl, refl), (attribute_hope wanted attr.Net begins, inr (refl, refl)))
attribute_again at wanted attr.NetLen out begins rest = (attr.Net, _, (outside_again at attribute_in (codes "net") attr.Net out refl, refl), (part_hope wanted attr.Net refl begins, inl (tt, _, (refl, refl), (attr.NetLen, _, (refl, refl), (refl, refl)))))
attribute_again at wanted attr.From out begins rest = (attr.From, _, (outside_again at attribute_in (codes "from") attr.From out refl, refl), (attribute_hope wanted attr.From begins, inr (refl, refl)))
attribute_again at wanted attr.NextHop out begins rest = (attr.NextHop, _, (outside_again at attribute_in (codes "bgp_next_hop") attr.NextHop out refl, refl), (attribute_hope wanted attr.NextHop begins, inr (refl, refl)))
attribute_again at wanted attr.Path out begins rest = (attr.Path, _, (outside_again at attribute_in (codes "bgp_path") attr.Path out refl, refl), (attribute_hope wanted attr.Path begins, inr (refl, refl)))
attribute_again at wanted attr.First out begins rest = (attr.Path, _, (outside_again at attribute_in (codes "bgp_path") attr.Path out refl, refl), (part_hope wanted attr.Path refl begins, inl (tt, _, (refl, refl), (attr.First, _, (refl, refl), (refl, refl)))))
attribute_again at wanted attr.Last out begins rest = (attr.Path, _, (outside_again at attribute_in (codes "bgp_path") attr.Path out refl, refl), (part_hope wanted attr.Path refl begins, inl (tt, _, (refl, refl), (attr.Last, _, (refl, refl), (refl, refl)))))
attribute_again at wanted attr.Len out begins rest = (attr.Path, _, (outside_again at attribute_in (codes "bgp_path") attr.Path out refl, refl), (part_hope wanted attr.Path refl begins, inl (tt, _, (refl, refl), (attr.Len, _, (refl, refl), (refl, refl)))))
attribute_again at wanted attr.Pairs out begins rest = (attr.Pairs, _, (outside_again at attribute_in (codes "bgp_community") attr.Pairs out refl, refl), (attribute_hope wanted attr.Pairs begins, inr (refl, refl)))
attribute_again at wanted attr.PairsLen out begins rest = (attr.Pairs, _, (outside_again at attribute_in (codes "bgp_community") attr.Pairs out refl, refl), (part_hope wanted attr.Pairs refl begins, inl (tt, _, (refl, refl), (attr.PairsLen, _, (refl, refl), (refl, refl)))))
attribute_again at wanted attr.Triples out begins rest = (attr.Triples, _, (outside_again at attribute_in (codes "bgp_large_community") attr.Triples out refl, refl), (attribute_hope wanted attr.Triples begins, inr (refl, refl)))
attribute_again at wanted attr.TriplesLen out begins rest =
    (attr.Triples, _, (outside_again at attribute_in (codes "bgp_large_community") attr.Triples out refl, refl), (part_hope wanted attr.Triples refl begins, inl (tt, _, (refl, refl), (attr.TriplesLen, _, (refl, refl), (refl, refl)))))
