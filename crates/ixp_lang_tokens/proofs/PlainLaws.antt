-- Where no IPv6 address begins: what was seen at one token holds of the next ones in the run.
use Rattle.std.proofs.Common.{◌≡◌, inl, inr, ℕ, zero, suc, ◌<◌, ◌≤◌, nat_le, nat_lt, Bool, true, false, not, ◌&&◌, ◌==◌, List, [], ◌∷◌, ◌++◌, length, Option, Some, None, refl, sym, ap, ◌∙◌, arith, subst, if◌then◌else◌}
use Rattle.std.specs.List.{list_any}
use Rattle.std.proofs.lemmas.Bool.{or_parts, ltb-true}
use Rattle.std.proofs.lemmas.List.{length-append, append_assoc}
use Rattle.ixp_lang_tokens.specs.declared.runs.Class.TheVariants as class
use Rattle.ixp_lang_tokens.specs.declared.shape.Shape.{Shape}
use Rattle.ixp_lang_tokens.specs.declared.shape.Shape.TheVariants as shape
use Rattle.ixp_lang_tokens.specs.declared.token.Kind.{Kind}
use Rattle.ixp_lang_tokens.specs.Bytes.{is_in, begins_with}
use Rattle.ixp_lang_tokens.specs.Gaps.{Blank, Blanks, Gap}
use Rattle.ixp_lang_tokens.specs.Tokens.{mark_text, Cut, Stands, is_last}
use Rattle.ixp_lang_tokens.specs.Cutting.{run_of, behind_run, behind_number, is_colon, has_two_colons, is_colon_text, behind_address, piece, address_piece, piece_at, Plain, plain_behind}
use Rattle.ixp_lang_tokens.proofs.AddressLaws.{address_parts, length_parts, number_sound}
use Rattle.ixp_lang_tokens.proofs.CutLaws.{piece_complete}

-- the rest stands at the end of the text
abbrev pub EndsWith : List ℕ → List ℕ → Type 0
EndsWith text rest = (front : List ℕ) × (text ≡ front ++ rest)

ends_then : (a b c : List ℕ) → EndsWith a b → EndsWith b c → EndsWith a c
ends_then a b c (f, p) (g, q) =
    let e : a ≡ f ++ (g ++ c) = cc in (f ++ g, e ∙ sym (append_assoc f g c))

-- Blanks, comments and tokens are cut off the front.

blank_end : (text rest : List ℕ) → Blank text rest → EndsWith text rest
blank_end text rest (inl (b, is, e)) = (b ∷ [], e)
blank_end text rest (inr (inl (behind, line, e, (parts, all, ends)))) = (35 ∷ line, cc)
blank_end text rest (inr (inr (comment, e, none))) =
    (47 ∷ 42 ∷ (comment ++ (42 ∷ 47 ∷ [])), e ∙ ap (λ x. 47 ∷ 42 ∷ x) (sym (append_assoc comment (42 ∷ 47 ∷ []) rest)))

blanks_end : (n : ℕ) (text rest : List ℕ) → Blanks n text rest → EndsWith text rest
blanks_end zero text rest e = ([], e)
blanks_end (suc n) text rest (mid, blank, more) = ends_then text mid rest (blank_end text mid blank) (blanks_end n mid rest more)

cut_end : (s : Shape) (text said rest : List ℕ) → Cut s text said rest → EndsWith text rest
cut_end shape.Address text said rest (h, none) = (said, address_parts text said rest h)
cut_end shape.Prefix text said rest (addr, mid, run, h, long, is) =
    ends_then text mid rest (addr, address_parts text addr mid h) (run, length_parts mid run rest long)
cut_end shape.Number text said rest (none, some, (is, all, ends)) = (said, is)
cut_end shape.Word text said rest (none, letter, (is, all, ends)) = (said, is)
cut_end shape.Text text said rest (is, all, short) =
    (34 ∷ (said ++ (34 ∷ [])), is ∙ ap (λ x. 34 ∷ x) (sym (append_assoc said (34 ∷ []) rest)))
cut_end (shape.Mark m) text said rest (none, empty, is, longest) = (mark_text m, is)
cut_end shape.Stray text said rest h = absurd h

-- Colons in a run.

none_then_few : (text : List ℕ) → list_any is_colon text ≡ false → has_two_colons text ≡ false
none_then_few [] e = refl
none_then_few (b ∷ bs) e =
    let p : (is_colon b ≡ false) × (list_any is_colon bs ≡ false) = or_parts _ _ e in
    rw p.0 (none_then_few bs p.1)

few_step : (bs : List ℕ) (t : Bool) → (if t then list_any is_colon bs else has_two_colons bs) ≡ false → has_two_colons bs ≡ false
few_step bs true e = none_then_few bs e
few_step bs false e = e

inside_step : (b : ℕ) (bs rest : List ℕ) (t : Bool) → length rest ≤ length bs → (has_two_colons (run_of class.Address bs) ≡ false → length (behind_run class.Address bs) < length rest → has_two_colons (run_of class.Address rest) ≡ false)
    → has_two_colons (if t then b ∷ run_of class.Address bs else []) ≡ false → length (if t then behind_run class.Address bs else b ∷ bs) < length rest → has_two_colons (run_of class.Address rest) ≡ false
inside_step b bs rest true short again e h = again (few_step (run_of class.Address bs) (is_colon b) e) h
inside_step b bs rest false short again e h = absurd (omega arith)

-- within a run of fewer than two colons every run has fewer than two
inside : (front rest : List ℕ) → has_two_colons (run_of class.Address (front ++ rest)) ≡ false → length (behind_run class.Address (front ++ rest)) < length rest
    → has_two_colons (run_of class.Address rest) ≡ false
inside [] rest e h = e
inside (b ∷ bs) rest e h =
    let short : length rest ≤ length (bs ++ rest) = omega (arith, length-append bs rest) in
    inside_step b (bs ++ rest) rest (is_in class.Address b) short (inside bs rest) e h

and_right : (x y : Bool) → y ≡ false → (x && y) ≡ false
and_right true y e = e
and_right false y e = refl

pub few_is_none : (text : List ℕ) → has_two_colons (run_of class.Address text) ≡ false → is_colon_text text ≡ false
unfolding is_colon_text
few_is_none text e = and_right _ _ e

none_is_few : (text : List ℕ) → not (begins_with (λ b. b == 46) text) ≡ true → is_colon_text text ≡ false → has_two_colons (run_of class.Address text) ≡ false
unfolding is_colon_text
none_is_few text no_dot e =
    let p : (true && has_two_colons (run_of class.Address text)) ≡ false = rw no_dot at e in p

-- An IPv6 address takes its run.

length_left : (mid : List ℕ) (o : Option (List ℕ)) → behind_number 47 mid ≡ o → (s : Shape) (text said after : List ℕ) → address_piece text mid o ≡ piece s said after → length after ≤ length mid
length_left mid None e s text said after is =
    let p : mid ≡ after = cc in omega (arith, ap length p)
length_left mid (Some rest) e s text said after is =
    let p : rest ≡ after = cc in
    let (digits, parts, are, ends) = number_sound 47 mid rest e in
    omega (arith, ap length p, ap length parts, length-append digits rest)

run_taken : (text : List ℕ) (s : Shape) (said after : List ℕ) → is_colon_text text ≡ true → piece_at text ≡ piece s said after → length after ≤ length (behind_run class.Address text)
unfolding piece_at behind_address
run_taken text s said after colon is =
    let q : address_piece text (behind_run class.Address text) (behind_number 47 (behind_run class.Address text)) ≡ piece s said after = rw colon at is in
    length_left (behind_run class.Address text) (behind_number 47 (behind_run class.Address text)) refl s text said after q

not_taken : (text : List ℕ) (t : Bool) → is_colon_text text ≡ t → (s : Shape) (said after : List ℕ) → Cut s text said after → length (behind_run class.Address text) < length after → is_colon_text text ≡ false
not_taken text true e s said after h long = absurd (omega (arith, run_taken text s said after e (piece_complete s text said after h)))
not_taken text false e s said after h long = e

-- The loop's step.

pub plain_first : (text : List ℕ) → Plain text (length text)
plain_first text front rest e h = absurd (omega (arith, ap length e, length-append front rest))

plain_within : (text : List ℕ) → not (begins_with (λ b. b == 46) text) ≡ true → is_colon_text text ≡ false → Plain text (length (behind_run class.Address text))
plain_within text no_dot none front rest e h =
    let few : has_two_colons (run_of class.Address text) ≡ false = none_is_few text no_dot none in
    let P : List ℕ → Type 0 = λ t. has_two_colons (run_of class.Address t) ≡ false in
    let Q : List ℕ → Type 0 = λ t. length (behind_run class.Address t) < length rest in
    few_is_none rest (inside front rest (subst P e few) (subst Q e h))

plain_step : (text after : List ℕ) (plain : ℕ) (t u v : Bool) → nat_le (length text) plain ≡ t → not (begins_with (λ b. b == 46) text) ≡ u → nat_lt (length (behind_run class.Address text)) (length after) ≡ v
    → (s : Shape) (said : List ℕ) → Cut s text said after → Plain text plain → Plain text (if t && u && v then length (behind_run class.Address text) else plain)
plain_step text after plain true true true p q r s said h was =
    plain_within text q (not_taken text (is_colon_text text) refl s said after h (ltb-true _ _ r))
plain_step text after plain true true false p q r s said h was = was
plain_step text after plain true false v p q r s said h was = was
plain_step text after plain false u v p q r s said h was = was

plain_end : (text rest : List ℕ) (plain : ℕ) → EndsWith text rest → Plain text plain → Plain rest plain
plain_end text rest plain (f, e) was front behind is h =
    was (f ++ front) behind (e ∙ ap (λ x. f ++ x) is ∙ sym (append_assoc f front behind)) h

cut_last : (k : Kind) (text after : List ℕ) → Stands k text after → is_last k ≡ false → (s : Shape) × (said : List ℕ) × Cut s text said after
cut_last k text after (inl (s, said, h, p)) e = (s, said, h)
cut_last k text after (inr (stray, p)) e =
    let P : Kind → Type 0 = λ x. is_last x ≡ false in let r : true ≡ false = subst P p e in absurd cc

pub plain_more : (text after next : List ℕ) (k : Kind) (plain : ℕ) → Plain text plain → Stands k text after → is_last k ≡ false → Gap after next → Plain next (plain_behind text after plain)
plain_more text after next k plain was stands last (n, blanks, none) =
    let (s, said, h) = cut_last k text after stands last in
    plain_end text next _ (ends_then text after next (cut_end s text said after h) (blanks_end n after next blanks))
    (plain_step text after plain (nat_le (length text) plain) (not (begins_with (λ b. b == 46) text)) (nat_lt (length (behind_run class.Address text)) (length after)) refl refl refl s said h was)
