-- The printed text of an expression has its canonical tokens.
use Rattle.std.proofs.Common.{◌≡◌, ℕ, Bool, true, false, List, ◌∷◌, ◌++◌, codes, refl, sym, ◌∙◌, subst, append_assoc}
use Rattle.ixp_lang.specs.declared.value.Value.TheVariants as value
use Rattle.ixp_lang.specs.declared.expr.Attr.{Attr}
use Rattle.ixp_lang.specs.declared.expr.Attr.TheVariants as attr
use Rattle.ixp_lang.specs.declared.expr.Op.{Op}
use Rattle.ixp_lang.specs.declared.expr.Op.TheVariants as op
use Rattle.ixp_lang.specs.Trees.{ExprTree, literal, named, attribute, call, roa_check, pair, triple, set_literal, negation, conjunction, disjunction, comparison, ExprTrees, exprs_end, exprs_more}
use Rattle.ixp_lang_tokens.specs.declared.token.Kind.{Kind}
use Rattle.ixp_lang_tokens.specs.declared.token.Mark.{Mark}
use Rattle.ixp_lang_tokens.specs.declared.token.Mark.TheVariants as mark
use Rattle.ixp_lang_tokens.specs.Words.{is_profile_word}
use Rattle.ixp_lang_tokens.specs.Written.{FewColons, joins}
use Rattle.ixp_print.specs.Texts.{attr_text, op_text, is_chain, is_compound, expr_text, exprs_text, more_exprs_text, chain_text, more_chain_text}
use Rattle.ixp_print.specs.Texts.{wrapped as wrapped_text}
use Rattle.ixp_lang_laws.specs.Canonical.{Before, word, name, sign, attr_tokens, operator, wrapped, expr_tokens, exprs_tokens, more_exprs_tokens, chain_tokens, more_chain_tokens}
use Rattle.ixp_lang_laws.proofs.Steps.{Reads, parted, blank_reads, ends, name_reads, word_reads, mark_reads, sign_reads, not_reads, is_start}
use Rattle.ixp_lang_laws.proofs.PrintedSets.{Prints, IsWord, plain_word, comma, set_prints, value_prints}

-- Attributes.

dotted_word : (w part : List ℕ) → IsWord w → IsWord part → ((rest : List ℕ) → FewColons (46 ∷ (part ++ rest))) → ((rest : List ℕ) → joins mark.Dot (part ++ rest) ≡ false)
    → Prints (w ++ (46 ∷ part)) (λ behind. word w (sign mark.Dot (word part behind)))
dotted_word w part is so few apart rest behind stops reads =
    parted w (46 ∷ part) rest _
    (word_reads w (46 ∷ (part ++ rest)) _ is.0 is.1 is.2 refl (few rest)
    (mark_reads mark.Dot (part ++ rest) _ refl (apart rest) refl (plain_word part so rest behind stops reads)))

attr_prints : (a : Attr) → Prints (attr_text a) (attr_tokens a)
unfolding is_profile_word
attr_prints attr.Net rest behind stops reads = plain_word (codes "net") (refl, refl, refl) rest behind stops reads
attr_prints attr.NetLen rest behind stops reads = dotted_word (codes "net") (codes "len") (refl, refl, refl) (refl, refl, refl) (λ r. refl) (λ r. refl) rest behind stops reads
attr_prints attr.From rest behind stops reads = plain_word (codes "from") (refl, refl, refl) rest behind stops reads
attr_prints attr.NextHop rest behind stops reads = plain_word (codes "bgp_next_hop") (refl, refl, refl) rest behind stops reads
attr_prints attr.Path rest behind stops reads = plain_word (codes "bgp_path") (refl, refl, refl) rest behind stops reads
attr_prints attr.First rest behind stops reads = dotted_word (codes "bgp_path") (codes "first") (refl, refl, refl) (refl, refl, refl) (λ r. refl) (λ r. refl) rest behind stops reads
attr_prints attr.Last rest behind stops reads = dotted_word (codes "bgp_path") (codes "last") (refl, refl, refl) (refl, refl, refl) (λ r. refl) (λ r. refl) rest behind stops reads
attr_prints attr.Len rest behind stops reads = dotted_word (codes "bgp_path") (codes "len") (refl, refl, refl) (refl, refl, refl) (λ r. refl) (λ r. refl) rest behind stops reads
attr_prints attr.Pairs rest behind stops reads = plain_word (codes "bgp_community") (refl, refl, refl) rest behind stops reads
attr_prints attr.PairsLen rest behind stops reads = dotted_word (codes "bgp_community") (codes "len") (refl, refl, refl) (refl, refl, refl) (λ r. refl) (λ r. refl) rest behind stops reads
attr_prints attr.Triples rest behind stops reads = plain_word (codes "bgp_large_community") (refl, refl, refl) rest behind stops reads
attr_prints attr.TriplesLen rest behind stops reads = dotted_word (codes "bgp_large_community") (codes "len") (refl, refl, refl) (refl, refl, refl) (λ r. refl) (λ r. refl) rest behind stops reads

-- Operators.

operator_reads : (o : Op) (rest : List ℕ) (tokens : List Kind) → Reads rest tokens → Reads (op_text o ++ (32 ∷ rest)) (sign (operator o) tokens)
operator_reads op.Eq rest tokens reads = mark_reads mark.Equal (32 ∷ rest) tokens refl refl refl (blank_reads rest (32 ∷ rest) tokens refl reads)
operator_reads op.Ne rest tokens reads = mark_reads mark.Unequal (32 ∷ rest) tokens refl refl refl (blank_reads rest (32 ∷ rest) tokens refl reads)
operator_reads op.Lt rest tokens reads = mark_reads mark.Less (32 ∷ rest) tokens refl refl refl (blank_reads rest (32 ∷ rest) tokens refl reads)
operator_reads op.Le rest tokens reads = mark_reads mark.LessEqual (32 ∷ rest) tokens refl refl refl (blank_reads rest (32 ∷ rest) tokens refl reads)
operator_reads op.Gt rest tokens reads = mark_reads mark.Greater (32 ∷ rest) tokens refl refl refl (blank_reads rest (32 ∷ rest) tokens refl reads)
operator_reads op.Ge rest tokens reads = mark_reads mark.GreaterEqual (32 ∷ rest) tokens refl refl refl (blank_reads rest (32 ∷ rest) tokens refl reads)
operator_reads op.In rest tokens reads = mark_reads mark.In (32 ∷ rest) tokens refl refl refl (blank_reads rest (32 ∷ rest) tokens refl reads)
operator_reads op.NotIn rest tokens reads = mark_reads mark.NotIn (32 ∷ rest) tokens refl refl refl (blank_reads rest (32 ∷ rest) tokens refl reads)

-- what stands between the parts of a chain
abbrev Joint : List ℕ → Mark → Type 0
Joint joint m = (rest : List ℕ) (behind : List Kind) → Reads rest behind → (ends (joint ++ rest) ≡ true) × Reads (joint ++ rest) (sign m behind)

and_joint : Joint (codes " && ") mark.And
and_joint rest behind reads = (refl, blank_reads _ _ _ refl (sign_reads mark.And (32 ∷ rest) behind refl (blank_reads rest (32 ∷ rest) behind refl reads)))

or_joint : Joint (codes " || ") mark.Or
or_joint rest behind reads = (refl, blank_reads _ _ _ refl (sign_reads mark.Or (32 ∷ rest) behind refl (blank_reads rest (32 ∷ rest) behind refl reads)))

-- Parentheses.

pub close : (rest : List ℕ) (behind : List Kind) → Reads rest behind → Reads (41 ∷ rest) (sign mark.Close behind)
close rest behind reads = sign_reads mark.Close rest behind refl reads

wrapped_prints : (b : Bool) (text : List ℕ) (tokens : Before) → Prints text tokens → Prints (wrapped_text b text) (wrapped b tokens)
wrapped_prints true text tokens prints rest behind stops reads = sign_reads mark.Open _ _ refl (parted text (codes ")") rest _ (prints (41 ∷ rest) _ refl (close rest behind reads)))
wrapped_prints false text tokens prints rest behind stops reads = prints rest behind stops reads

attr_start : (a : Attr) (behind : List Kind) → is_start (attr_tokens a behind) ≡ true
attr_start attr.Net behind = refl
attr_start _ behind = refl

expr_start : (e : ExprTree) (behind : List Kind) → is_compound e ≡ false → is_start (expr_tokens e behind) ≡ true
expr_start (literal (value.Int n)) behind simple = refl
expr_start (literal _) behind simple = refl
expr_start (attribute a) behind simple = attr_start a behind
expr_start (conjunction es) behind simple = absurd cc
expr_start (disjunction es) behind simple = absurd cc
expr_start (comparison o e f) behind simple = absurd cc
expr_start _ behind simple = refl

wrapped_start : (b : Bool) (e : ExprTree) (behind : List Kind) → is_compound e ≡ b → is_start (wrapped b (expr_tokens e) behind) ≡ true
wrapped_start true e behind is = refl
wrapped_start false e behind is = expr_start e behind is

-- Expressions of printed parts.

check_reads : (t e f : List ℕ) (one other : Before) → Prints e one → Prints f other
    → Prints (codes "roa_check(" ++ t ++ codes ", " ++ e ++ codes ", " ++ f ++ codes ")")
    (λ behind. word (codes "roa_check") (sign mark.Open (name t (sign mark.Comma (one (sign mark.Comma (other (sign mark.Close behind))))))))
unfolding is_profile_word
check_reads t e f one other left right rest behind stops reads =
    word_reads (codes "roa_check") _ _ refl refl refl refl refl
    (sign_reads mark.Open _ _ refl
    (parted ((((t ++ codes ", ") ++ e) ++ codes ", ") ++ f) (codes ")") rest _
    (parted (((t ++ codes ", ") ++ e) ++ codes ", ") f (41 ∷ rest) _
    (parted ((t ++ codes ", ") ++ e) (codes ", ") (f ++ (41 ∷ rest)) _
    (parted (t ++ codes ", ") e (44 ∷ 32 ∷ (f ++ (41 ∷ rest))) _
    (parted t (codes ", ") (e ++ (44 ∷ 32 ∷ (f ++ (41 ∷ rest)))) _
    (name_reads t _ _ refl (comma _ _ (left _ _ refl (comma _ _ (right (41 ∷ rest) _ refl (close rest behind reads))))))))))))

compared_reads : (o : Op) (e f : List ℕ) (one other : Before) → Prints e one → Prints f other
    → Prints (e ++ codes " " ++ op_text o ++ codes " " ++ f) (λ behind. one (sign (operator o) (other behind)))
compared_reads o e f one other left right rest behind stops reads =
    parted (((e ++ codes " ") ++ op_text o) ++ codes " ") f rest _
    (parted ((e ++ codes " ") ++ op_text o) (codes " ") (f ++ rest) _
    (parted (e ++ codes " ") (op_text o) (32 ∷ (f ++ rest)) _
    (parted e (codes " ") (op_text o ++ (32 ∷ (f ++ rest))) _
    (left _ _ refl (blank_reads _ _ _ refl (operator_reads o (f ++ rest) (other behind) (right rest behind stops reads)))))))

chained : (joint : List ℕ) (m : Mark) → Joint joint m → (part more : List ℕ) (tokens : Before) → Prints part tokens → (rest : List ℕ) (behind : List Kind) → ends (more ++ rest) ≡ true → Reads (more ++ rest) behind
    → (ends ((joint ++ part ++ more) ++ rest) ≡ true) × Reads ((joint ++ part ++ more) ++ rest) (sign m (tokens behind))
chained joint m joins part more tokens prints rest behind stops reads =
    let h : (ends (joint ++ (part ++ (more ++ rest))) ≡ true) × Reads (joint ++ (part ++ (more ++ rest))) (sign m (tokens behind)) = joins (part ++ (more ++ rest)) (tokens behind) (prints (more ++ rest) behind stops reads) in
    let e : (joint ++ part ++ more) ++ rest ≡ joint ++ (part ++ (more ++ rest)) = append_assoc (joint ++ part) more rest ∙ append_assoc joint part (more ++ rest) in
    subst (λ t. (ends t ≡ true) × Reads t (sign m (tokens behind))) (sym e) h

-- Expressions.

mutual
  pub expr_prints : (e : ExprTree) → Prints (expr_text e) (expr_tokens e)
  expr_prints (literal v) rest behind stops reads = value_prints v rest behind stops reads
  expr_prints (named n) rest behind stops reads = name_reads n rest behind stops reads
  expr_prints (attribute a) rest behind stops reads = attr_prints a rest behind stops reads
  expr_prints (call n es) rest behind stops reads =
      parted ((n ++ codes "(") ++ exprs_text es) (codes ")") rest _
      (parted (n ++ codes "(") (exprs_text es) (41 ∷ rest) _
      (parted n (codes "(") (exprs_text es ++ (41 ∷ rest)) _
      (name_reads n _ _ refl (sign_reads mark.Open _ _ refl (exprs_prints es (41 ∷ rest) _ refl (close rest behind reads))))))
  expr_prints (roa_check t e f) rest behind stops reads = check_reads t (expr_text e) (expr_text f) (expr_tokens e) (expr_tokens f) (expr_prints e) (expr_prints f) rest behind stops reads
  expr_prints (pair e f) rest behind stops reads =
      sign_reads mark.Open _ _ refl
      (parted ((expr_text e ++ codes ", ") ++ expr_text f) (codes ")") rest _
      (parted (expr_text e ++ codes ", ") (expr_text f) (41 ∷ rest) _
      (parted (expr_text e) (codes ", ") (expr_text f ++ (41 ∷ rest)) _
      (expr_prints e _ _ refl (comma _ _ (expr_prints f (41 ∷ rest) _ refl (close rest behind reads)))))))
  expr_prints (triple e f g) rest behind stops reads =
      sign_reads mark.Open _ _ refl
      (parted ((((expr_text e ++ codes ", ") ++ expr_text f) ++ codes ", ") ++ expr_text g) (codes ")") rest _
      (parted (((expr_text e ++ codes ", ") ++ expr_text f) ++ codes ", ") (expr_text g) (41 ∷ rest) _
      (parted ((expr_text e ++ codes ", ") ++ expr_text f) (codes ", ") (expr_text g ++ (41 ∷ rest)) _
      (parted (expr_text e ++ codes ", ") (expr_text f) (44 ∷ 32 ∷ (expr_text g ++ (41 ∷ rest))) _
      (parted (expr_text e) (codes ", ") (expr_text f ++ (44 ∷ 32 ∷ (expr_text g ++ (41 ∷ rest)))) _
      (expr_prints e _ _ refl (comma _ _ (expr_prints f _ _ refl (comma _ _ (expr_prints g (41 ∷ rest) _ refl (close rest behind reads)))))))))))
  expr_prints (set_literal s) rest behind stops reads = set_prints s rest behind stops reads
  expr_prints (negation e) rest behind stops reads =
      not_reads _ _ (wrapped_start (is_compound e) e behind refl) (wrapped_prints (is_compound e) (expr_text e) (expr_tokens e) (expr_prints e) rest behind stops reads)
  expr_prints (conjunction es) rest behind stops reads = chain_prints (codes " && ") mark.And and_joint es rest behind stops reads
  expr_prints (disjunction es) rest behind stops reads = chain_prints (codes " || ") mark.Or or_joint es rest behind stops reads
  expr_prints (comparison o e f) rest behind stops reads =
      compared_reads o (wrapped_text (is_compound e) (expr_text e)) (wrapped_text (is_compound f) (expr_text f)) (wrapped (is_compound e) (expr_tokens e)) (wrapped (is_compound f) (expr_tokens f))
      (wrapped_prints (is_compound e) (expr_text e) (expr_tokens e) (expr_prints e)) (wrapped_prints (is_compound f) (expr_text f) (expr_tokens f) (expr_prints f)) rest behind stops reads

  pub exprs_prints : (es : ExprTrees) → Prints (exprs_text es) (exprs_tokens es)
  exprs_prints exprs_end rest behind stops reads = reads
  exprs_prints (exprs_more e es) rest behind stops reads =
      (let more = more_exprs_prints es rest behind stops reads in parted (expr_text e) (more_exprs_text es) rest _ (expr_prints e _ _ more.0 more.1))

  more_exprs_prints : (es : ExprTrees) (rest : List ℕ) (behind : List Kind) → ends rest ≡ true → Reads rest behind
      → (ends (more_exprs_text es ++ rest) ≡ true) × Reads (more_exprs_text es ++ rest) (more_exprs_tokens es behind)
  more_exprs_prints exprs_end rest behind stops reads = (stops, reads)
  more_exprs_prints (exprs_more e es) rest behind stops reads =
      (let more = more_exprs_prints es rest behind stops reads in (refl, comma _ _ (parted (expr_text e) (more_exprs_text es) rest _ (expr_prints e _ _ more.0 more.1))))

  chain_prints : (joint : List ℕ) (m : Mark) → Joint joint m → (es : ExprTrees) → Prints (chain_text joint es) (chain_tokens m es)
  chain_prints joint m joins exprs_end rest behind stops reads = reads
  chain_prints joint m joins (exprs_more e es) rest behind stops reads =
      let more = more_chain_prints joint m joins es rest behind stops reads in
      parted (wrapped_text (is_chain e) (expr_text e)) (more_chain_text joint es) rest _
      (wrapped_prints (is_chain e) (expr_text e) (expr_tokens e) (expr_prints e) _ _ more.0 more.1)

  more_chain_prints : (joint : List ℕ) (m : Mark) → Joint joint m → (es : ExprTrees) (rest : List ℕ) (behind : List Kind) → ends rest ≡ true → Reads rest behind
      → (ends (more_chain_text joint es ++ rest) ≡ true) × Reads (more_chain_text joint es ++ rest) (more_chain_tokens m es behind)
  more_chain_prints joint m joins exprs_end rest behind stops reads = (stops, reads)
  more_chain_prints joint m joins (exprs_more e es) rest behind stops reads =
      let more = more_chain_prints joint m joins es rest behind stops reads in
      chained joint m joins (wrapped_text (is_chain e) (expr_text e)) (more_chain_text joint es) (wrapped (is_chain e) (expr_tokens e))
      (wrapped_prints (is_chain e) (expr_text e) (expr_tokens e) (expr_prints e)) rest _ more.0 more.1
