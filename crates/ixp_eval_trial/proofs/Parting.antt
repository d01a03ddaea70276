-- The parts of an input.
use Rattle.std.proofs.Common.{◌≡◌, ◌≢◌, ◌≤◌, ◌+◌, ◌-◌, ◌⊎◌, inl, inr, ℕ, List, [], ◌∷◌, ◌++◌, length, take, refl, sym, ap, ◌∙◌, arith, append_assoc}
use Rattle.std.proofs.lemmas.List.{length-append}
use Rattle.std.proofs.Math.Seq.{take-append_seam}
use Rattle.ixp_eval_trial.specs.Lines.{lines, ended, divider, HasNoDivider, Divided}
use Rattle.ixp_eval_trial.specs.Cutting.{Leads}

pub no_divider_more : (ls : List (List ℕ)) (l : List ℕ) → HasNoDivider ls → l ≢ divider → HasNoDivider (ls ++ l ∷ [])
no_divider_more [] l none ne = (ne, tt)
no_divider_more (m ∷ ms) l none ne = (none.0, no_divider_more ms l none.1 ne)

pub ended_more : (ls : List (List ℕ)) (l rest : List ℕ) → ended (ls ++ l ∷ []) ++ rest ≡ ended ls ++ (l ++ 10 ∷ rest)
ended_more [] l rest = append_assoc l (10 ∷ []) rest
ended_more (m ∷ ms) l rest = append_assoc m (10 ∷ ended (ms ++ l ∷ [])) rest ∙ ap (λ t. m ++ 10 ∷ t) (ended_more ms l rest) ∙ sym (append_assoc m (10 ∷ ended ms) (l ++ 10 ∷ rest))

-- these lines stand before the rest of the input, and none of them is the divider
pub record Passed (input rest : List ℕ) (before : ℕ) : Type 0 where
  pub above : List (List ℕ)
  pub whole : lines input ≡ above ++ lines rest
  pub first : HasNoDivider above
  pub count : before ≡ length above
  pub text : (input ≡ ended above ++ rest) ⊎ (rest ≡ [])
  pub room : before + length rest ≤ length input

pub at_start : (input : List ℕ) → Passed input input 0
at_start input = record { above = []; whole = refl; first = tt; count = refl; text = inl refl; room = omega arith }

text_more : (input rest line behind : List ℕ) (above : List (List ℕ)) → (input ≡ ended above ++ rest) ⊎ (rest ≡ []) → Leads rest line behind → (input ≡ ended (above ++ line ∷ []) ++ behind) ⊎ (behind ≡ [])
text_more input rest line behind above (inr e) leads = absurd (let less = leads.less in let none = ap length e in omega arith)
text_more input rest line behind above (inl e) leads = text_end leads.ends where
  text_end : (rest ≡ line ++ 10 ∷ behind) ⊎ ((rest ≡ line) × (behind ≡ [])) → (input ≡ ended (above ++ line ∷ []) ++ behind) ⊎ (behind ≡ [])
  text_end (inl whole) = inl (e ∙ ap (λ r. ended above ++ r) whole ∙ sym (ended_more above line behind))
  text_end (inr last) = inr last.1

pub one_more : (input rest line behind : List ℕ) (before : ℕ) → Passed input rest before → Leads rest line behind → line ≢ divider → Passed input behind (before + 1)
one_more input rest line behind before p leads ne = record {
  above = p.above ++ line ∷ [];
  whole = p.whole ∙ ap (λ ls. p.above ++ ls) leads.lines ∙ sym (append_assoc p.above (line ∷ []) (lines behind));
  first = no_divider_more p.above line p.first ne;
  count = let c = p.count in let size = length-append p.above (line ∷ []) in omega arith;
  text = text_more input rest line behind p.above p.text leads;
  room = let r = p.room in let less = leads.less in omega arith;
}

above_part : (input filter above rest : List ℕ) → input ≡ above ++ rest → filter ≡ take (length input - length rest) input → filter ≡ above
above_part input filter above rest e front =
    let size = ap length e ∙ length-append above rest in
    let many : length input - length rest ≡ length above = omega arith in
    front ∙ ap (λ n. take n input) many ∙ ap (take (length above)) e ∙ take-append_seam above rest

pub divides : (input rest line behind filter : List ℕ) (before : ℕ) → Passed input rest before → Leads rest line behind → line ≡ divider → filter ≡ take (length input - length rest) input → (above : List (List ℕ)) × Divided input above (lines behind) × (filter ≡ ended above) × (before + 2 ≡ length above + 2)
divides input rest line behind filter before p leads e front = (
  p.above,
  record { whole = p.whole ∙ ap (λ ls. p.above ++ ls) (leads.lines ∙ ap (λ l. l ∷ lines behind) e); first = p.first },
  filter_is p.text,
  ap (λ n. n + 2) p.count,
) where
  filter_is : (input ≡ ended p.above ++ rest) ⊎ (rest ≡ []) → filter ≡ ended p.above
  filter_is (inl whole) = above_part input filter (ended p.above) rest whole front
  filter_is (inr none) = absurd (let less = leads.less in let size = ap length none in omega arith)
