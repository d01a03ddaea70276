-- No text has two answers.
use Rattle.std.proofs.Common.{◌≡◌, ◌≢◌, ℕ, ◌+◌, ◌<◌, ◌⊎◌, List, [], ◌∷◌, ◌++◌, length, length-append, append_assoc, append-nil, flat_map, Option, Some, None, IfSome, Result, Ok, Err, inl, inr, refl, sym, ap, ◌∙◌, subst, arith}
use Rattle.std.specs.List.{AllByRecursion}
use Rattle.std.specs.declared.cmp.Ordering.{Ordering}
use Rattle.std.specs.declared.cmp.Ordering.TheVariants.{Less, Equal, Greater}
use Rattle.std.proofs.lemmas.List.{append_cancel_left}
use Rattle.ixp_num_tables.specs.Tables.{order, Ascends}
use Rattle.ixp_num_tables.proofs.Views.{Ascends-last}
use Rattle.ixp_registry.specs.declared.rows.Rows.{Rows}
use Rattle.ixp_rows_lines.specs.declared.version.Version.{Version}
use Rattle.ixp_rows_lines.specs.Lines.{Line, place_of, line_text, IsLine, IsOfVersion, key_of}
use Rattle.ixp_rows_lines.proofs.Spelling.{some_is, none_some}
use Rattle.ixp_rows.specs.declared.fault.DumpFault.{DumpFault}
use Rattle.ixp_rows.specs.declared.fault.DumpFault.TheVariants.{BadLine, Order, Twice, Invalid, NoMemory}
use Rattle.ixp_rows.specs.Reading.{line_at, head_text, end_text}
use Rattle.ixp_rows.specs.Answers.{row_lines, SiteFirst, Stands, IsDump, BeginsLine, IsLineOrEnd, Clashes, HasNoHead, DumpAnswer}
use Rattle.ixp_rows.proofs.LinesAgain.{same_kind, line_again, line_other, end_again}
use Rattle.ixp_rows.proofs.RowsTold.{rows_told}
use Rattle.ixp_rows.proofs.Standing.{BelowLast}

-- one line begins a text
one_line : (version : Version) (l m : Line) (x y : List ℕ) → IsLine version l → IsLine version m → line_text l ++ x ≡ line_text m ++ y → (l ≡ m) × (x ≡ y)
one_line version l m x y here there e = by_kind (same_kind m.kind l.kind)
  where
    first : line_at version l.kind (line_text m ++ y) ≡ Some (Some (l.fields, x))
    first = ap (line_at version l.kind) (sym e) ∙ line_again version l here x

    by_kind : (m.kind ≡ l.kind) ⊎ (place_of m.kind ≢ place_of l.kind) → (l ≡ m) × (x ≡ y)
    by_kind (inl k) =
        let second : line_at version l.kind (line_text m ++ y) ≡ Some (Some (m.fields, y)) = ap (λ k. line_at version k (line_text m ++ y)) (sym k) ∙ line_again version m there y in
        let both = some_is (l.fields, x) (m.fields, y) (some_is (Some (l.fields, x)) (Some (m.fields, y)) (sym first ∙ second)) in
        ((λ i. record { kind = sym k i; fields = (both i).0 }), ap (λ p. p.1) both)
    by_kind (inr apart) =
        absurd (none_some (l.fields, x) (some_is None (Some (l.fields, x)) (sym (line_other version m there y l.kind apart) ∙ first)))

one_begins : (version : Version) (l m : Line) (t : List ℕ) → BeginsLine version l t → BeginsLine version m t → l ≡ m
one_begins version l m t here there = (one_line version l m here.more there.more here.is_line there.is_line (sym here.text ∙ there.text)).0

-- no line begins as the end does
end_no_line : (version : Version) (l : Line) (n : ℕ) (more : List ℕ) → ¬ (BeginsLine version l (end_text n ++ more))
end_no_line version l n more begins =
    let read : line_at version l.kind (end_text n ++ more) ≡ Some (Some (l.fields, begins.more)) = ap (line_at version l.kind) begins.text ∙ line_again version l begins.is_line begins.more in
    none_some (l.fields, begins.more) (some_is None (Some (l.fields, begins.more)) (sym (end_again version l.kind n more) ∙ read))

no_line_at_end : (version : Version) (l : Line) (n : ℕ) (rest more : List ℕ) → rest ≡ end_text n ++ more → ¬ (BeginsLine version l rest)
no_line_at_end version l n rest more e begins = end_no_line version l n more (subst (BeginsLine version l) e begins)

-- of two fronts of lines one goes on where the other ends
record Splits (ls ms : List Line) (r s : List ℕ) : Type 0 where
  others : List Line
  whole : ms ≡ ls ++ others
  behind : r ≡ flat_map line_text others ++ s

lines_split : (version : Version) (ls ms : List Line) (r s : List ℕ) → AllByRecursion (IsLine version) ls → AllByRecursion (IsLine version) ms
    → flat_map line_text ls ++ r ≡ flat_map line_text ms ++ s → Splits ls ms r s ⊎ Splits ms ls s r
lines_split version [] ms r s here there e = inl (record { others = ms; whole = refl; behind = e })
lines_split version (l ∷ ls) [] r s here there e = inr (record { others = l ∷ ls; whole = refl; behind = sym e })
lines_split version (l ∷ ls) (m ∷ ms) r s here there e =
    let first =
    one_line version l m (flat_map line_text ls ++ r) (flat_map line_text ms ++ s) here.0 there.0
    (sym (append_assoc (line_text l) (flat_map line_text ls) r) ∙ (e ∙ append_assoc (line_text m) (flat_map line_text ms) s)) in
    by_others first.0 (lines_split version ls ms r s here.1 there.1 first.1)
  where
    by_others : l ≡ m → Splits ls ms r s ⊎ Splits ms ls s r → Splits (l ∷ ls) (m ∷ ms) r s ⊎ Splits (m ∷ ms) (l ∷ ls) s r
    by_others same (inl p) = inl (record { others = p.others; whole = (ap (λ x. x ∷ ms) (sym same) ∙ ap (λ xs. l ∷ xs) p.whole); behind = p.behind })
    by_others same (inr p) = inr (record { others = p.others; whole = (ap (λ x. x ∷ ls) same ∙ ap (λ xs. m ∷ xs) p.whole); behind = p.behind })

all_behind : (P : Line → Type 0) (ls : List Line) (v : Line) (vs : List Line) → AllByRecursion P (ls ++ v ∷ vs) → P v
all_behind P [] v vs all = all.0
all_behind P (l ∷ ls) v vs all = all_behind P ls v vs all.1

site_first : (ls : List Line) (v : Line) (vs : List Line) → SiteFirst (ls ++ v ∷ vs) → SiteFirst (ls ++ v ∷ [])
site_first [] v vs site = site
site_first (l ∷ ls) v vs site = site

module _ (version : Version) where
  -- no further line can stand
  abbrev Final : List Line → List ℕ → Type 0
  Final ls r = (v : Line) → BeginsLine version v r → SiteFirst (ls ++ v ∷ []) → BelowLast ls v → ⊥

  longer : (t : List ℕ) (ls ms : List Line) (r s : List ℕ) → Stands version t ms s → Final ls r → (vs : List Line) → ms ≡ ls ++ vs → r ≡ flat_map line_text vs ++ s → (ls ≡ ms) × (r ≡ s)
  longer t ls ms r s stands final [] whole behind = (sym (whole ∙ append-nil ls), behind)
  longer t ls ms r s stands final (v ∷ vs) whole behind =
      absurd (final v
      (record {
        more = flat_map line_text vs ++ s;
        is_line = all_behind (IsLine version) ls v vs (subst (AllByRecursion (IsLine version)) whole stands.each);
        text = behind ∙ append_assoc (line_text v) (flat_map line_text vs) s;
      })
      (site_first ls v vs (subst SiteFirst whole stands.site)) (Ascends-last key_of ls v vs (subst (Ascends key_of) whole stands.ascends)))

  same_front : (t : List ℕ) (ls ms : List Line) (r s : List ℕ) → Stands version t ls r → Stands version t ms s → Final ls r → Final ms s → (ls ≡ ms) × (r ≡ s)
  same_front t ls ms r s here there final last =
      by_split (lines_split version ls ms r s here.each there.each
      (append_cancel_left (head_text version) (flat_map line_text ls ++ r) (flat_map line_text ms ++ s) (sym here.parts ∙ there.parts)))
    where
      by_split : Splits ls ms r s ⊎ Splits ms ls s r → (ls ≡ ms) × (r ≡ s)
      by_split (inl p) = longer t ls ms r s there final p.others p.whole p.behind
      by_split (inr p) = let both = longer t ms ls s r here last p.others p.whole p.behind in (sym both.0, sym both.1)

  may_end : (lines : List Line) (rest more : List ℕ) → 0 < length lines → rest ≡ end_text (length lines) ++ more → IsLineOrEnd version lines rest
  may_end [] rest more some e = absurd (omega (arith, some))
  may_end (l ∷ ls) rest more some e = inr (more, e)

  may_line : (lines : List Line) (rest : List ℕ) (v : Line) → BeginsLine version v rest → SiteFirst (lines ++ v ∷ []) → IsLineOrEnd version lines rest
  may_line [] rest v begins site = (v, site, begins)
  may_line (l ∷ ls) rest v begins site = inl (v, begins)

  -- what an answer says of the lines that stand and of what is behind them
  abbrev Verdict : Result Rows DumpFault → List Line → List ℕ → Type 0
  Verdict (Ok rows) lines rest =
      ((row_lines version rows ≡ lines) × AllByRecursion (IsLine version) (row_lines version rows) × AllByRecursion (IsOfVersion version) rows.routers)
      × (rest ≡ end_text (length lines)) × (0 < length lines)
  Verdict (Err (BadLine n)) lines rest =
      ((n ≡ length lines + 2) × ¬ (IsLineOrEnd version lines rest))
      ⊎ ((n ≡ length lines + 3) × (0 < length lines) × ((c : ℕ) × (more : List ℕ) × (rest ≡ end_text (length lines) ++ c ∷ more)))
  Verdict (Err (Order n)) lines rest = (n ≡ length lines + 2) × Clashes Greater version lines rest
  Verdict (Err (Twice n)) lines rest = (n ≡ length lines + 2) × Clashes Equal version lines rest
  Verdict (Err (Invalid rule n)) lines rest = ⊥
  Verdict (Err NoMemory) lines rest = ⊥

  record Stopped (t : List ℕ) (r : Result Rows DumpFault) : Type 0 where
    lines : List Line
    rest : List ℕ
    stands : Stands version t lines rest
    verdict : Verdict r lines rest

  clash_site : (how : Ordering) (lines : List Line) (rest : List ℕ) → Clashes how version lines rest → 0 < length lines
  clash_site how [] rest clash = absurd (none_some clash.last clash.is_last)
  clash_site how (l ∷ ls) rest clash = omega arith

  -- the line that clashes isn't above the last
  clash_final : (how : Ordering) (lines : List Line) (rest : List ℕ) → how ≢ Less → Clashes how version lines rest → Final lines rest
  clash_final how lines rest other clash v begins site below =
      let same = one_begins version clash.line v rest clash.begins begins in
      let less : order (key_of clash.last) (key_of v) ≡ Less = subst (λ o. IfSome o (λ s. order (key_of s) (key_of v) ≡ Less)) clash.is_last below in
      other (sym clash.compare ∙ (ap (λ l. order (key_of clash.last) (key_of l)) same ∙ less))

  verdict_final : (r : Result Rows DumpFault) (lines : List Line) (rest : List ℕ) → Verdict r lines rest → Final lines rest
  verdict_final (Ok rows) lines rest says v begins site below = no_line_at_end version v (length lines) rest [] (says.1 ∙ sym (append-nil (end_text (length lines)))) begins
  verdict_final (Err (BadLine n)) lines rest (inl says) v begins site below = says.1 (may_line lines rest v begins site)
  verdict_final (Err (BadLine n)) lines rest (inr (e, some, (c, more, text))) v begins site below = no_line_at_end version v (length lines) rest (c ∷ more) text begins
  verdict_final (Err (Order n)) lines rest says v begins site below = clash_final Greater lines rest (λ e. absurd cc) says.1 v begins site below
  verdict_final (Err (Twice n)) lines rest says v begins site below = clash_final Equal lines rest (λ e. absurd cc) says.1 v begins site below
  verdict_final (Err (Invalid rule n)) lines rest says v begins site below = says
  verdict_final (Err NoMemory) lines rest says v begins site below = says

  -- verdicts that can't be of one text
  end_or_bad : (lines : List Line) (rest more : List ℕ) → 0 < length lines → rest ≡ end_text (length lines) ++ more → ¬ (IsLineOrEnd version lines rest) → ⊥
  end_or_bad lines rest more some e never = never (may_end lines rest more some e)

  end_or_clash : (how : Ordering) (lines : List Line) (rest more : List ℕ) → rest ≡ end_text (length lines) ++ more → Clashes how version lines rest → ⊥
  end_or_clash how lines rest more e clash = no_line_at_end version clash.line (length lines) rest more e clash.begins

  bad_or_clash : (how : Ordering) (lines : List Line) (rest : List ℕ) → ¬ (IsLineOrEnd version lines rest) → Clashes how version lines rest → ⊥
  bad_or_clash how [] rest never clash = none_some clash.last clash.is_last
  bad_or_clash how (l ∷ ls) rest never clash = never (inl (clash.line, clash.begins))

  whole_or_behind : (n c : ℕ) (rest more : List ℕ) → rest ≡ end_text n → rest ≡ end_text n ++ c ∷ more → ⊥
  whole_or_behind n c rest more e f =
      let long = length-append (end_text n) (c ∷ more) in
      let same : length (end_text n) ≡ length (end_text n ++ c ∷ more) = ap length (sym e ∙ f) in
      absurd (omega (arith, long, same))

  order_or_twice : (lines : List Line) (rest : List ℕ) → Clashes Greater version lines rest → Clashes Equal version lines rest → ⊥
  order_or_twice lines rest high same =
      let last : ◌≡◌ {A = Option Line} (Some high.last) (Some same.last) = sym high.is_last ∙ same.is_last in
      let one_last = some_line high.last same.last last in
      let one = one_begins version high.line same.line rest high.begins same.begins in
      let both : Greater ≡ Equal = sym high.compare ∙ (ap (λ l. order (key_of l) (key_of high.line)) one_last ∙ (ap (λ l. order (key_of same.last) (key_of l)) one ∙ same.compare)) in
      absurd cc
    where
      some_line : (a b : Line) → ◌≡◌ {A = Option Line} (Some a) (Some b) → a ≡ b
      some_line a b e = cc

  ended : (lines : List Line) (rest : List ℕ) → rest ≡ end_text (length lines) → rest ≡ end_text (length lines) ++ []
  ended lines rest e = e ∙ sym (append-nil (end_text (length lines)))

  -- two answers that say something of one place say the same
  agree : (x y : Result Rows DumpFault) (lines : List Line) (rest : List ℕ) → Verdict x lines rest → Verdict y lines rest → x ≡ y
  agree (Ok a) (Ok b) lines rest (one, a_end, some) (other, b_end, more) =
      ap (λ w. Ok w) (rows_told version a b one.1 other.1 one.2 other.2 (one.0 ∙ sym other.0))
  agree (Ok a) (Err (BadLine n)) lines rest (is, end, some) (inl bad) = absurd (end_or_bad lines rest [] some (ended lines rest end) bad.1)
  agree (Ok a) (Err (BadLine n)) lines rest (is, end, some) (inr (e, more_some, (c, more, text))) = absurd (whole_or_behind (length lines) c rest more end text)
  agree (Ok a) (Err (Order n)) lines rest (is, end, some) clash = absurd (end_or_clash Greater lines rest [] (ended lines rest end) clash.1)
  agree (Ok a) (Err (Twice n)) lines rest (is, end, some) clash = absurd (end_or_clash Equal lines rest [] (ended lines rest end) clash.1)
  agree (Err (BadLine n)) (Ok a) lines rest (inl bad) (is, end, some) = absurd (end_or_bad lines rest [] some (ended lines rest end) bad.1)
  agree (Err (BadLine n)) (Ok a) lines rest (inr (e, more_some, (c, more, text))) (is, end, some) = absurd (whole_or_behind (length lines) c rest more end text)
  agree (Err (Order n)) (Ok a) lines rest clash (is, end, some) = absurd (end_or_clash Greater lines rest [] (ended lines rest end) clash.1)
  agree (Err (Twice n)) (Ok a) lines rest clash (is, end, some) = absurd (end_or_clash Equal lines rest [] (ended lines rest end) clash.1)
  agree (Err (BadLine n)) (Err (BadLine m)) lines rest (inl bad) (inl worse) = ap (λ n. Err (BadLine n)) (bad.0 ∙ sym worse.0)
  agree (Err (BadLine n)) (Err (BadLine m)) lines rest (inl bad) (inr (e, some, (c, more, text))) = absurd (end_or_bad lines rest (c ∷ more) some text bad.1)
  agree (Err (BadLine n)) (Err (BadLine m)) lines rest (inr (e, some, (c, more, text))) (inl bad) = absurd (end_or_bad lines rest (c ∷ more) some text bad.1)
  agree (Err (BadLine n)) (Err (BadLine m)) lines rest (inr behind) (inr other) = ap (λ n. Err (BadLine n)) (behind.0 ∙ sym other.0)
  agree (Err (BadLine n)) (Err (Order m)) lines rest (inl bad) clash = absurd (bad_or_clash Greater lines rest bad.1 clash.1)
  agree (Err (BadLine n)) (Err (Order m)) lines rest (inr (e, some, (c, more, text))) clash = absurd (end_or_clash Greater lines rest (c ∷ more) text clash.1)
  agree (Err (BadLine n)) (Err (Twice m)) lines rest (inl bad) clash = absurd (bad_or_clash Equal lines rest bad.1 clash.1)
  agree (Err (BadLine n)) (Err (Twice m)) lines rest (inr (e, some, (c, more, text))) clash = absurd (end_or_clash Equal lines rest (c ∷ more) text clash.1)
  agree (Err (Order m)) (Err (BadLine n)) lines rest clash (inl bad) = absurd (bad_or_clash Greater lines rest bad.1 clash.1)
  agree (Err (Order m)) (Err (BadLine n)) lines rest clash (inr (e, some, (c, more, text))) = absurd (end_or_clash Greater lines rest (c ∷ more) text clash.1)
  agree (Err (Twice m)) (Err (BadLine n)) lines rest clash (inl bad) = absurd (bad_or_clash Equal lines rest bad.1 clash.1)
  agree (Err (Twice m)) (Err (BadLine n)) lines rest clash (inr (e, some, (c, more, text))) = absurd (end_or_clash Equal lines rest (c ∷ more) text clash.1)
  agree (Err (Order n)) (Err (Order m)) lines rest one other = ap (λ n. Err (Order n)) (one.0 ∙ sym other.0)
  agree (Err (Twice n)) (Err (Twice m)) lines rest one other = ap (λ n. Err (Twice n)) (one.0 ∙ sym other.0)
  agree (Err (Order n)) (Err (Twice m)) lines rest one other = absurd (order_or_twice lines rest one.1 other.1)
  agree (Err (Twice n)) (Err (Order m)) lines rest one other = absurd (order_or_twice lines rest other.1 one.1)
  agree (Err (Invalid rule n)) y lines rest one other = absurd one
  agree (Err NoMemory) y lines rest one other = absurd one
  agree x (Err (Invalid rule n)) lines rest one other = absurd other
  agree x (Err NoMemory) lines rest one other = absurd other

  pub rows_some : (w : Rows) → 0 < length (row_lines version w)
  unfolding row_lines
  rows_some w = omega arith

  -- what an answer says, if memory didn't run out
  abbrev View : List ℕ → Result Rows DumpFault → Type 0
  View t r = ((r ≡ Err (BadLine 1)) × HasNoHead version t) ⊎ Stopped t r

  view : (t : List ℕ) (r : Result Rows DumpFault) → r ≢ Err NoMemory → DumpAnswer version t r → View t r
  view t (Ok w) told answer =
      inr (record { lines = row_lines version w; rest = end_text (length (row_lines version w)); stands = answer.0; verdict = ((refl, answer.0.each, answer.1), refl, rows_some w) })
  view t (Err (BadLine n)) told (inl (e, none)) = inl (ap (λ n. Err (BadLine n)) e, none)
  view t (Err (BadLine n)) told (inr (inl (lines, rest, s, e, never))) = inr (record { lines = lines; rest = rest; stands = s; verdict = inl (e, never) })
  view t (Err (BadLine n)) told (inr (inr (lines, c, more, s, some, e))) =
      inr (record { lines = lines; rest = end_text (length lines) ++ c ∷ more; stands = s; verdict = inr (e, some, (c, more, refl)) })
  view t (Err (Order n)) told (lines, rest, s, e, clash) = inr (record { lines = lines; rest = rest; stands = s; verdict = (e, clash) })
  view t (Err (Twice n)) told (lines, rest, s, e, clash) = inr (record { lines = lines; rest = rest; stands = s; verdict = (e, clash) })
  view t (Err (Invalid rule n)) told answer = absurd answer
  view t (Err NoMemory) told answer = absurd (told refl)

  no_head : (t : List ℕ) (r : Result Rows DumpFault) → HasNoHead version t → Stopped t r → ⊥
  no_head t r none stopped = none (flat_map line_text stopped.lines ++ stopped.rest) stopped.stands.parts

  same_stop : (t : List ℕ) (x y : Result Rows DumpFault) → Stopped t x → Stopped t y → x ≡ y
  same_stop t x y one other =
      let same =
      same_front t one.lines other.lines one.rest other.rest one.stands other.stands (verdict_final x one.lines one.rest one.verdict)
      (verdict_final y other.lines other.rest other.verdict) in
      agree x y other.lines other.rest (subst (λ r. Verdict x other.lines r) same.1 (subst (λ ls. Verdict x ls one.rest) same.0 one.verdict)) other.verdict

  same_view : (t : List ℕ) (x y : Result Rows DumpFault) → View t x → View t y → x ≡ y
  same_view t x y (inl one) (inl other) =
      one.0 ∙ sym other.0
  same_view t x y (inl one) (inr other) = absurd (no_head t y one.1 other)
  same_view t x y (inr one) (inl other) = absurd (no_head t x other.1 one)
  same_view t x y (inr one) (inr other) = same_stop t x y one other

  pub one_answer : (t : List ℕ) (x y : Result Rows DumpFault) → x ≢ Err NoMemory → y ≢ Err NoMemory → DumpAnswer version t x → DumpAnswer version t y → x ≡ y
  one_answer t x y some more one other = same_view t x y (view t x some one) (view t y more other)

  -- a text is a dump of one list of lines
  pub one_dump : (t : List ℕ) (ls ms : List Line) → IsDump version ls t → IsDump version ms t → ls ≡ ms
  one_dump t ls ms one other = (same_front t ls ms (end_text (length ls)) (end_text (length ms)) one other (final ls) (final ms)).0
    where
      final : (ls : List Line) → Final ls (end_text (length ls))
      final ls v begins site below = no_line_at_end version v (length ls) (end_text (length ls)) [] (sym (append-nil (end_text (length ls)))) begins

  -- and then has no fault
  pub no_fault : (t : List ℕ) (ls : List Line) (f : DumpFault) → f ≢ NoMemory → 0 < length ls → IsDump version ls t → DumpAnswer version t (Err f) → ⊥
  no_fault t ls f told some dump answer = by_view (view t (Err f) (λ e. told (fault_is f NoMemory e)) answer)
    where
      fault_is : (f g : DumpFault) → ◌≡◌ {A = Result Rows DumpFault} (Err f) (Err g) → f ≡ g
      fault_is f g e = cc

      final : Final ls (end_text (length ls))
      final v begins site below = no_line_at_end version v (length ls) (end_text (length ls)) [] (sym (append-nil (end_text (length ls)))) begins

      by_verdict : (f : DumpFault) → 0 < length ls → Verdict (Err f) ls (end_text (length ls)) → ⊥
      by_verdict (BadLine n) some (inl bad) = end_or_bad ls (end_text (length ls)) [] some (ended ls (end_text (length ls)) refl) bad.1
      by_verdict (BadLine n) some (inr (e, more_some, (c, more, text))) = whole_or_behind (length ls) c (end_text (length ls)) more refl text
      by_verdict (Order n) some clash = end_or_clash Greater ls (end_text (length ls)) [] (ended ls (end_text (length ls)) refl) clash.1
      by_verdict (Twice n) some clash = end_or_clash Equal ls (end_text (length ls)) [] (ended ls (end_text (length ls)) refl) clash.1
      by_verdict (Invalid rule n) some says = says
      by_verdict NoMemory some says = says

      by_view : View t (Err f) → ⊥
      by_view (inl none) = none.1 (flat_map line_text ls ++ end_text (length ls)) dump.parts
      by_view (inr stop) =
          let same =
          same_front t ls stop.lines (end_text (length ls)) stop.rest dump stop.stands final (verdict_final (Err f) stop.lines stop.rest stop.verdict) in
          by_verdict f some (subst (λ r. Verdict (Err f) ls r) (sym same.1) (subst (λ ms. Verdict (Err f) ms stop.rest) (sym same.0) stop.verdict))
