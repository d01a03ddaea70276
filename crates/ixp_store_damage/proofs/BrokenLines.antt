-- Which row has the line at which rows break a rule, and what faults tell.
use Rattle.std.proofs.Common.{◌≡◌, ℕ, ◌<◌, ◌+◌, ◌-◌, true, false, if◌then◌else◌, List, [], ◌∷◌, ◌++◌, append-nil, append_assoc, refl, sym, ap, ◌∙◌, subst, arith}
use Rattle.ixp_io.specs.declared.keeper.RowName.{RowName}
use Rattle.ixp_registry.specs.declared.kind.Kind.{Kind}
use Rattle.ixp_rows_lines.specs.declared.version.Version.TheVariants.{Two}
use Rattle.ixp_rows.specs.Reading.{breaks, head_text, end_text}
use Rattle.ixp_rows.proofs.LinesAgain.{breaks_append}
use Rattle.ixp_store_rows.specs.Names.{Entry}
use Rattle.ixp_store_words.specs.declared.fault.Damage.TheVariants.{Row, Rule}
use Rattle.ixp_store_words.specs.declared.fault.NoState.{NoState}
use Rattle.ixp_store_words.specs.declared.fault.NoState.TheVariants.{Damaged, NoMemory}
use Rattle.ixp_store_damage.specs.Damages.{HasLine, IsFirstWrong, AreAllRight, entry_text, entries_text, entries_dump, has_whole_lines}
use Rattle.ixp_store_damage.specs.Placing.{IsSection, AreSections}
use Rattle.ixp_store_damage.specs.Walking.{IsRowFault, TellsFirst, TellsRule, TellsWrong}

-- rows of one kind more
pub kind_step :
    (es : List Entry) (kind : Kind) (kinds : List Kind) (old new : List Entry) (P : List Entry → Type 0) → ((own : List Entry) → AreSections es (kind ∷ kinds) own → P (old ++ own))
    → (own : List Entry) × IsSection es kind own × (new ≡ old ++ own) → (own : List Entry) → AreSections es kinds own → P (new ++ own)
kind_step es kind kinds old new P all added own are =
    subst P (sym (ap (λ l. l ++ own) added.2 ∙ append_assoc old added.0 own)) (all (added.0 ++ own) (added.0, own, added.1, are, refl))

-- The text of rows
pub whole_text : (e : Entry) → has_whole_lines e ≡ true → entry_text e ≡ e.1
whole_text e whole = ap (λ b. e.1 ++ (if b then [] else 10 ∷ [])) whole ∙ append-nil e.1

pub line_text : (e : Entry) → has_whole_lines e ≡ false → entry_text e ≡ e.1 ++ 10 ∷ []
line_text e plain = ap (λ b. e.1 ++ (if b then [] else 10 ∷ [])) plain

pub text_more : (before : List Entry) (e : Entry) → breaks (entries_text (before ++ e ∷ [])) ≡ breaks (entries_text before) + breaks (entry_text e)
text_more [] e = breaks_append (entry_text e) [] ∙ (let none : breaks [] ≡ 0 = refl in omega (arith, none))
text_more (x ∷ xs) e =
    let one = breaks_append (entry_text x) (entries_text (xs ++ e ∷ [])) in
    let two = breaks_append (entry_text x) (entries_text xs) in
    let more = text_more xs e in
    omega (arith, one, two, more)

pub dump_made : (t : List ℕ) (es : List Entry) → t ≡ head_text Two ++ entries_text es → t ++ end_text (breaks t - 1) ≡ entries_dump es
dump_made t es e =
    let joined = breaks_append (head_text Two) (entries_text es) in
    let head : breaks (head_text Two) ≡ 1 = refl in
    let all = ap breaks e in
    let number : breaks t - 1 ≡ breaks (entries_text es) = omega (arith, joined, head, all) in
    ap (λ n. t ++ end_text n) number ∙ (ap (λ x. x ++ end_text (breaks (entries_text es))) e ∙ append_assoc (head_text Two) (entries_text es) (end_text (breaks (entries_text es))))

-- The rows behind these have this line, so many lines further on.
pub record Skips (ordered left : List Entry) (line skip : ℕ) : Type 0 where
  pub before : List Entry
  pub parts : ordered ≡ before ++ left
  pub here : line ≡ breaks (entries_text before) + (skip + 2)

pub skip_start : (ordered : List Entry) (line skip : ℕ) → line ≡ skip + 2 → Skips ordered ordered line skip
skip_start ordered line skip e = record { before = []; parts = refl; here = let none : breaks (entries_text []) ≡ 0 = refl in omega (arith, none, e) }

pub skip_next : (ordered : List Entry) (e : Entry) (rest : List Entry) (line skip less : ℕ) → Skips ordered (e ∷ rest) line skip → skip ≡ less + breaks (entry_text e) → Skips ordered rest line less
skip_next ordered e rest line skip less s is = record {
  before = s.before ++ e ∷ [];
  parts = s.parts ∙ sym (append_assoc s.before (e ∷ []) rest);
  here = let more = text_more s.before e in let here = s.here in omega (arith, more, here, is);
}

pub skip_found : (ordered : List Entry) (e : Entry) (rest : List Entry) (line skip : ℕ) → Skips ordered (e ∷ rest) line skip → skip < breaks (entry_text e) → HasLine ordered e.0 line
skip_found ordered e rest line skip s lt = record {
  before = s.before;
  row = e;
  after = rest;
  parts = s.parts;
  named = refl;
  above = let here = s.here in omega (arith, here);
  below = let here = s.here in omega (arith, here, lt);
}

-- What faults tell
pub first_told : (es : List Entry) (name : RowName) (fault : NoState) → IsRowFault name fault → IsFirstWrong es name → TellsFirst es fault
first_told es name (Damaged told Row) is first = subst (IsFirstWrong es) is first
first_told es name (Damaged told (Rule rule)) is first = absurd is
first_told es name NoMemory is first = tt

pub first_wrong : (es : List Entry) (fault : NoState) → TellsFirst es fault → TellsWrong es fault
first_wrong es (Damaged name Row) first = first
first_wrong es (Damaged name (Rule rule)) first = absurd first
first_wrong es NoMemory first = tt

pub rule_wrong : (es : List Entry) (fault : NoState) → AreAllRight es → TellsRule es fault → TellsWrong es fault
rule_wrong es (Damaged name Row) right rule = absurd rule
rule_wrong es (Damaged name (Rule told)) right rule = (right, rule)
rule_wrong es NoMemory right rule = tt
