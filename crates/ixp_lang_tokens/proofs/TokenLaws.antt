-- Tokens: what stands at the front of a text is one token, and a text has one list of them.
use Rattle.std.proofs.Common.{◌≡◌, inl, inr, ℕ, zero, suc, ◌-◌, ◌≤◌, ◌<◌, Bool, true, false, List, [], ◌∷◌, length, slice_get, Option, IfSome, refl, sym, ap, ◌∙◌, arith, subst}
use native.Mathlib.Numerals.{unary_clauses}
use Rattle.ixp_num.proofs.OneAnswer.{one_addr, one_prefix, one_asn}
use Rattle.ixp_lang_tokens.specs.declared.shape.Shape.{Shape}
use Rattle.ixp_lang_tokens.specs.declared.shape.Shape.TheVariants as shape
use Rattle.ixp_lang_tokens.specs.declared.token.Kind.{Kind}
use Rattle.ixp_lang_tokens.specs.Gaps.{Gap}
use Rattle.ixp_lang_tokens.specs.Tokens.{Cut, Says, Stands, is_last, Placed, Tokens, addr_kind, prefix_kind, number_kind}
use Rattle.ixp_lang_tokens.specs.Cutting.{Piece, piece, piece_at}
use Rattle.ixp_lang_tokens.proofs.GapLaws.{one_gap}
use Rattle.ixp_lang_tokens.proofs.CutLaws.{IsCut, piece_sound, piece_complete, cut_shorter}

-- where the stray piece is read no piece is cut
stray_none : (text said rest : List ℕ) → piece shape.Stray said rest ≡ piece_at text → (s : Shape) (other behind : List ℕ) → ¬ (Cut s text other behind)
stray_none text said rest e shape.Stray other behind h = h
stray_none text said rest e s other behind h =
    let p : piece_at text ≡ piece s other behind = piece_complete s text other behind h in absurd cc

-- what the piece that is read says stands there
pub stands : (s : Shape) (text said rest : List ℕ) (k : Kind) → 0 < length text → piece s said rest ≡ piece_at text → Says s said k → Stands k text rest
stands shape.Stray text said rest k some e says = inr (((λ q. omega (arith, ap length q)), stray_none text said rest e), says)
stands s text said rest k some e says =
    let P : Piece → Type 0 = λ p. IsCut text p in
    inl (s, said, subst P (sym e) (piece_sound text), says)

-- One token.

abbrev Same : Kind → Kind → Type 0
Same k other = k ≡ other

says_one : (s : Shape) (said : List ℕ) (k other : Kind) → Says s said k → Says s said other → k ≡ other
says_one shape.Address said k other (answer, is, p) (reply, was, q) = p ∙ ap addr_kind (one_addr said answer reply is was) ∙ sym q
says_one shape.Prefix said k other (answer, is, p) (reply, was, q) = p ∙ ap prefix_kind (one_prefix said answer reply is was) ∙ sym q
says_one shape.Number said k other (answer, is, p) (reply, was, q) = p ∙ ap number_kind (one_asn said answer reply is was) ∙ sym q
says_one shape.Word said k other p q = p ∙ sym q
says_one shape.Text said k other p q = p ∙ sym q
says_one (shape.Mark m) said k other p q = p ∙ sym q
says_one shape.Stray said k other p q = p ∙ sym q

abbrev OneStands : Kind → List ℕ → Kind → List ℕ → Type 0
OneStands k rest other behind = (k ≡ other) × (is_last k ≡ false → rest ≡ behind)

cut_one : (text : List ℕ) (s t : Shape) (said told rest behind : List ℕ) (k other : Kind) → Cut s text said rest → Cut t text told behind → Says s said k → Says t told other → OneStands k rest other behind
cut_one text s t said told rest behind k other h i p q =
    let one : piece_at text ≡ piece s said rest = piece_complete s text said rest h in
    let two : piece_at text ≡ piece t told behind = piece_complete t text told behind i in
    let a : s ≡ t = cc in
    let b : said ≡ told = cc in
    let c : rest ≡ behind = cc in
    let P : Shape → Type 0 = λ x. Says x told other in
    let Q : List ℕ → Type 0 = λ x. Says s x other in
    (says_one s said k other p (subst Q (sym b) (subst P (sym a) q)), λ h. c)

pub one_stands : (text : List ℕ) (k other : Kind) (rest behind : List ℕ) → Stands k text rest → Stands other text behind → OneStands k rest other behind
one_stands text k other rest behind (inl (s, said, h, p)) (inl (t, told, i, q)) = cut_one text s t said told rest behind k other h i p q
one_stands text k other rest behind (inl (s, said, h, p)) (inr ((some, none), q)) = absurd (none s said rest h)
one_stands text k other rest behind (inr ((some, none), p)) (inl (t, told, i, q)) = absurd (none t told behind i)
one_stands text k other rest behind (inr (stray, p)) (inr (other_stray, q)) =
    (p ∙ sym q, λ h. let P : Kind → Type 0 = λ x. is_last x ≡ false in let r : true ≡ false = subst P p h in absurd cc)

-- nothing stands at the end of a text
end_cut : (s : Shape) (said rest : List ℕ) → ¬ (Cut s [] said rest)
end_cut s said rest h = absurd (omega (arith, cut_shorter s [] said rest h))

no_end : (k : Kind) (text rest : List ℕ) → text ≡ [] → ¬ (Stands k text rest)
no_end k text rest e (inl (s, said, h, p)) = omega (arith, cut_shorter s text said rest h, ap length e)
no_end k text rest e (inr ((some, none), p)) = some e

-- a token that isn't the last takes a byte or more
pub stands_shorter : (k : Kind) (text rest : List ℕ) → Stands k text rest → is_last k ≡ false → length rest < length text
stands_shorter k text rest (inl (s, said, h, p)) e = cut_shorter s text said rest h
stands_shorter k text rest (inr (stray, p)) e =
    let P : Kind → Type 0 = λ x. is_last x ≡ false in let r : true ≡ false = subst P p e in absurd cc

-- One list.

no_token : (text here rest : List ℕ) (k : Kind) → Gap text [] → Gap text here → Stands k here rest → ⊥
no_token text here rest k p q h = no_end k here rest (sym (one_gap text [] here p q)) h

same_token : (a b : Placed) → a.kind ≡ b.kind → a.left ≡ b.left → a ≡ b
same_token a b p q = λ i. record { kind = p i; left = q i }

rest_step : (a b : Placed) (xs ys : List Placed) (rest behind : List ℕ) (t : Bool) → is_last a.kind ≡ t → OneStands a.kind rest b.kind behind
    → (is_last a.kind ≡ true → xs ≡ []) × (is_last a.kind ≡ false → Tokens rest xs) → (is_last b.kind ≡ true → ys ≡ []) × (is_last b.kind ≡ false → Tokens behind ys)
    → (Tokens rest xs → Tokens rest ys → xs ≡ ys) → xs ≡ ys
rest_step a b xs ys rest behind true e (same, one) (ends, goes) (stops, more) again =
    let P : Kind → Type 0 = λ k. is_last k ≡ true in
    ends e ∙ sym (stops (subst P same e))
rest_step a b xs ys rest behind false e (same, one) (ends, goes) (stops, more) again =
    let P : Kind → Type 0 = λ k. is_last k ≡ false in
    let Q : List ℕ → Type 0 = λ t. Tokens t ys in
    again (goes e) (subst Q (sym (one e)) (more (subst P same e)))

pub one_tokens : (text : List ℕ) (one other : List Placed) → Tokens text one → Tokens text other → one ≡ other
one_tokens text [] [] p q = refl
one_tokens text [] (b ∷ ys) p (here, rest, gap, h, left, ends, goes) = absurd (no_token text here rest b.kind p gap h)
one_tokens text (a ∷ xs) [] (here, rest, gap, h, left, ends, goes) q = absurd (no_token text here rest a.kind q gap h)
one_tokens text (a ∷ xs) (b ∷ ys) (here, rest, gap, h, left, ends, goes) (there, behind, space, i, size, stops, more) =
    let at : here ≡ there = one_gap text here there gap space in
    let P : List ℕ → Type 0 = λ t. Stands b.kind t behind in
    let one : OneStands a.kind rest b.kind behind = one_stands here a.kind b.kind rest behind h (subst P (sym at) i) in
    let token : a ≡ b = same_token a b one.0 (left ∙ ap length at ∙ sym size) in
    let tail : xs ≡ ys = rest_step a b xs ys rest behind (is_last a.kind) refl one (ends, goes) (stops, more) (one_tokens rest xs ys) in
    cc

-- The list grows at its end.

-- these are the tokens of each text whose first gap ends here
abbrev pub From : List ℕ → List Placed → Type 0
From here tokens = (text : List ℕ) → Gap text here → Tokens text tokens

pub from_end : (here : List ℕ) → length here ≡ 0 → From here []
from_end [] none text gap = gap
from_end (b ∷ bs) none text gap = absurd (omega arith)

pub from_last : (here rest : List ℕ) (token : Placed) → Stands token.kind here rest → token.left ≡ length here → is_last token.kind ≡ true → From here (token ∷ [])
from_last here rest token h left last text gap =
    (here, rest, gap, h, left, (λ e. refl), (λ e. absurd cc))

pub from_more : (here rest next : List ℕ) (token : Placed) (tokens : List Placed) → Stands token.kind here rest → token.left ≡ length here → is_last token.kind ≡ false
    → Gap rest next → From next tokens → From here (token ∷ tokens)
from_more here rest next token tokens h left more space from text gap =
    (here, rest, gap, h, left, (λ e. absurd cc), (λ e. from rest space))

-- Where a token begins.

-- behind a token that isn't the last comes what is behind the piece that is read there
pub behind_piece : (text : List ℕ) (k : Kind) (rest : List ℕ) (s : Shape) (said after : List ℕ) → Stands k text rest → is_last k ≡ false → piece s said after ≡ piece_at text → rest ≡ after
behind_piece text k rest s said after (inl (t, told, h, p)) more e =
    let at : piece_at text ≡ piece t told rest = piece_complete t text told rest h in cc
behind_piece text k rest s said after (inr (stray, p)) more e =
    let P : Kind → Type 0 = λ x. is_last x ≡ false in let r : true ≡ false = subst P p more in absurd cc

-- The text goes on here with the last of its tokens. The sought one, before which there are so many others, has so many more before it.
pub record GoesOn (tokens : List Placed) (others : ℕ) (here : List ℕ) (more : ℕ) : Type 0 where
  pub start : List ℕ
  pub back : List Placed
  pub gap : Gap start here
  pub are : Tokens start back
  pub some : more < length back
  pub same : slice_get back more ≡ slice_get tokens others

-- a token that others follow isn't the last
not_last : (k : Kind) (t : Placed) (ts : List Placed) (b : Bool) → is_last k ≡ b → (is_last k ≡ true → t ∷ ts ≡ []) → is_last k ≡ false
not_last k t ts true e ends = let bad : t ∷ ts ≡ [] = ends e in absurd cc
not_last k t ts false e ends = e

next_token : (tokens back : List Placed) (others more : ℕ) (start here : List ℕ) (s : Shape) (said after next : List ℕ) → Gap start here → Tokens start back → suc more < length back
    → slice_get back (suc more) ≡ slice_get tokens others → piece s said after ≡ piece_at here → Gap after next → (k : Kind) × Stands k here after × (is_last k ≡ false) × GoesOn tokens others next more
next_token tokens [] others more start here s said after next gap are some same e space = absurd (omega (arith, some))
next_token tokens (t ∷ []) others more start here s said after next gap are some same e space = absurd (omega (arith, some))
next_token tokens (t ∷ u ∷ ts) others more start here s said after next gap (there, rest, behind, stands, left, ends, goes) some same e space =
    let at : there ≡ here = one_gap start there here behind gap in
    let on : Stands t.kind here rest = subst (λ x. Stands t.kind x rest) at stands in
    let mid : is_last t.kind ≡ false = not_last t.kind u ts (is_last t.kind) refl ends in
    let one : rest ≡ after = behind_piece here t.kind rest s said after on mid e in (
      t.kind,
      subst (Stands t.kind here) one on,
      mid,
      record { start = after; back = u ∷ ts; gap = space; are = subst (λ x. Tokens x (u ∷ ts)) one (goes mid); some = omega (arith, some); same = same },
    )

pub goes_on : (tokens : List Placed) (others more : ℕ) (here : List ℕ) (s : Shape) (said after next : List ℕ) → 0 < more → GoesOn tokens others here more → piece s said after ≡ piece_at here
    → Gap after next → (k : Kind) × Stands k here after × (is_last k ≡ false) × GoesOn tokens others next (more - 1)
goes_on tokens others zero here s said after next some g e space = absurd (omega (arith, some))
goes_on tokens others (suc more) here s said after next some g e space = simp unary_clauses (next_token tokens g.back others more g.start here s said after next g.gap g.are g.some g.same e space)

token_here : (tokens back : List Placed) (others : ℕ) (start here : List ℕ) → Gap start here → Tokens start back → 0 < length back → slice_get back 0 ≡ slice_get tokens others
    → IfSome (slice_get tokens others) (λ t. length here ≡ t.left)
token_here tokens [] others start here gap are some same = absurd (omega (arith, some))
token_here tokens (t ∷ ts) others start here gap (there, rest, behind, stands, left, ends, goes) some same =
    subst (λ (o : Option Placed). IfSome o (λ t. length here ≡ t.left)) same (ap length (one_gap start here there gap behind) ∙ sym left)

pub begins_here : (tokens : List Placed) (others more : ℕ) (here : List ℕ) → more ≤ 0 → GoesOn tokens others here more → IfSome (slice_get tokens others) (λ t. length here ≡ t.left)
begins_here tokens others zero here none g = token_here tokens g.back others g.start here g.gap g.are g.some g.same
begins_here tokens others (suc more) here none g = absurd (omega (arith, none))
