-- What is read behind lines that stand, and where the first faulty line is.
use Rattle.std.proofs.Common.{◌≡◌, ◌≢◌, ℕ, zero, suc, ◌+◌, ◌-◌, ◌<◌, ◌≤◌, ◌⊎◌, List, [], ◌∷◌, ◌++◌, length, length-append, take, append_assoc, append-nil, map, flat_map, Option, Some, None, IfSome, slice_get, Result, Ok, Err, inl, inr, refl, sym, ap, ◌∙◌, subst, arith}
use Rattle.std.specs.List.{AllByRecursion}
use Rattle.std.specs.Cmp.{nat_cmp_is}
use Rattle.std.specs.Ordering.{ordering_then, match_ordering}
use Rattle.std.specs.declared.cmp.Ordering.{Ordering}
use Rattle.std.specs.declared.cmp.Ordering.TheVariants.{Less, Equal, Greater}
use Rattle.std.proofs.Math.Seq.{take-append_seam}
use Rattle.std.proofs.lemmas.Cmp.{nat_cmp_total, tied_itself}
use Rattle.std.proofs.lemmas.Grind.{flat_map-append}
use Rattle.std.proofs.lemmas.List.{length-map}
use Rattle.ixp_num_tables.specs.Tables.{order}
use Rattle.ixp_num_tables.proofs.Views.{Ascends-more}
use Rattle.ixp_registry.specs.declared.kind.Kind.{Kind}
use Rattle.ixp_rows_lines.specs.declared.version.Version.{Version}
use Rattle.ixp_rows_lines.specs.declared.version.Version.TheVariants.{One, Two}
use Rattle.ixp_rows_lines.specs.Fields.{Field, field_text}
use Rattle.ixp_registry.specs.Kinds.{word_of}
use Rattle.ixp_rows_lines.specs.Lines.{Line, place_of, spelled, line_text, IsLine, field_key, key_length, key_of}
use Rattle.ixp_rows_lines.proofs.Spelling.{none_some}
use Rattle.ixp_rows.specs.declared.misread.Misread.{Misread}
use Rattle.ixp_rows.specs.declared.misread.Misread.TheVariants.{Bad, Order, Twice, NoMemory}
use Rattle.ixp_rows.specs.Reading.{◌>>=◌, key_in, misplaced, unless, begun, line_at, behind_row, more_with, rows_from, section, sections_at, head_text, end_text, total, breaks, line_with_left, fault_of}
use Rattle.ixp_rows.specs.Answers.{SiteFirst, Stands, BeginsLine, IsLineOrEnd, ClashesAt, DumpAnswer}
use Rattle.ixp_rows.proofs.LinesAgain.{place_some, same_kind, line_again, line_other, end_again, read_line, breaks_append, lines_breaks, end_breaks}
use Rattle.ixp_rows.proofs.Sections.{last_of}
use Rattle.ixp_rows.proofs.Spelt.{line_found, texts, rows_found}

abbrev pub line_of : Kind → List Field → Line
line_of kind fs = record { kind = kind; fields = fs }

abbrev pub last_line : List Line → Option Line
last_line lines = slice_get lines (length lines - 1)

-- keys by their first number
pub heads_same : (p : ℕ) (a b : List ℕ) → order (p ∷ a) (p ∷ b) ≡ order a b
heads_same p a b = ap (λ o. ordering_then o (order a b)) (tied_itself nat_cmp_total p)

pub heads_less : (p q : ℕ) (a b : List ℕ) → p < q → order (p ∷ a) (q ∷ b) ≡ Less
heads_less p q a b low = ap (λ o. ordering_then o (order a b)) (sym (nat_cmp_is p q Less low))

pub heads_greater : (p q : ℕ) (a b : List ℕ) → q < p → order (p ∷ a) (q ∷ b) ≡ Greater
heads_greater p q a b high = ap (λ o. ordering_then o (order a b)) (sym (nat_cmp_is p q Greater high))

-- the number of the line behind a front of the text
left_front : (front rest : List ℕ) → take (length (front ++ rest) - length rest) (front ++ rest) ≡ front
left_front front rest =
    let long = length-append front rest in
    let e : length (front ++ rest) - length rest ≡ length front = omega arith in
    ap (λ n. take n (front ++ rest)) e ∙ take-append_seam front rest

number_behind : (t front rest : List ℕ) → t ≡ front ++ rest → line_with_left t (length rest) ≡ suc (breaks front)
number_behind t front rest e =
    ap (λ t. line_with_left t (length rest)) e ∙ ap (λ f. suc (breaks f)) (left_front front rest)

head_breaks : (version : Version) → breaks (head_text version) ≡ 1
head_breaks One = refl
head_breaks Two = refl

front_breaks : (version : Version) (lines : List Line) → AllByRecursion (IsLine version) lines → breaks (head_text version ++ flat_map line_text lines) ≡ length lines + 1
front_breaks version lines all =
    let head = head_breaks version in
    let each = lines_breaks version lines all in
    breaks_append (head_text version) (flat_map line_text lines) ∙ omega (arith, head, each)

pub line_number : (version : Version) (t : List ℕ) (lines : List Line) (rest : List ℕ) → Stands version t lines rest → line_with_left t (length rest) ≡ length lines + 2
line_number version t lines rest s =
    let front = front_breaks version lines s.each in
    number_behind t (head_text version ++ flat_map line_text lines) rest (s.parts ∙ sym (append_assoc (head_text version) (flat_map line_text lines) rest))
    ∙ omega (arith, front)

pub number_behind_end : (version : Version) (t : List ℕ) (lines : List Line) (n : ℕ) (rest : List ℕ) → Stands version t lines (end_text n ++ rest) → line_with_left t (length rest) ≡ length lines + 3
number_behind_end version t lines n rest s =
    let front = front_breaks version lines s.each in
    let last = end_breaks n in
    let ahead = head_text version ++ flat_map line_text lines in
    let whole : t ≡ (ahead ++ end_text n) ++ rest =
    s.parts ∙ (sym (append_assoc (head_text version) (flat_map line_text lines) (end_text n ++ rest)) ∙ sym (append_assoc ahead (end_text n) rest)) in
    let sum = breaks_append ahead (end_text n) in
    number_behind t (ahead ++ end_text n) rest whole ∙ omega (arith, front, last, sum)

-- a line of the kind or of another is read where one stands
no_line : (version : Version) (kind : Kind) (line : Line) (rest : List ℕ) → BeginsLine version line rest → line_at version kind rest ≢ None
no_line version kind line rest begins none = by_kind (same_kind line.kind kind)
  where
    by_kind : (line.kind ≡ kind) ⊎ (place_of line.kind ≢ place_of kind) → ⊥
    by_kind (inl e) =
        none_some (Some (line.fields, begins.more))
        (sym none ∙ (ap (λ k. line_at version k rest) (sym e) ∙ (ap (line_at version line.kind) begins.text ∙ line_again version line begins.is_line begins.more)))
    by_kind (inr apart) =
        none_some None (sym none ∙ (ap (line_at version kind) begins.text ∙ line_other version line begins.is_line begins.more kind apart))

pub misfit : (version : Version) (kind : Kind) (lines : List Line) (rest : List ℕ) → 0 < length lines → line_at version kind rest ≡ None → ¬ (IsLineOrEnd version lines rest)
misfit version kind [] rest some none may = absurd (omega (arith, some))
misfit version kind (l ∷ ls) rest some none (inl (line, begins)) = no_line version kind line rest begins none
misfit version kind (l ∷ ls) rest some none (inr (more, text)) =
    none_some None (sym none ∙ (ap (line_at version kind) text ∙ end_again version kind (length (l ∷ ls)) more))

-- one more line
all_more : (P : Line → Type 0) (lines : List Line) (l : Line) → AllByRecursion P lines → P l → AllByRecursion P (lines ++ l ∷ [])
all_more P [] l all here = (here, tt)
all_more P (m ∷ lines) l all here = (all.0, all_more P lines l all.1 here)

site_kept : (lines more : List Line) → 0 < length lines → SiteFirst lines → SiteFirst (lines ++ more)
site_kept [] more some site = absurd (omega (arith, some))
site_kept (l ∷ lines) more some site = site

texts_more : (lines : List Line) (l : Line) (more : List ℕ) → flat_map line_text lines ++ (line_text l ++ more) ≡ flat_map line_text (lines ++ l ∷ []) ++ more
texts_more lines l more =
    sym (append_assoc (flat_map line_text lines) (line_text l) more)
    ∙ ap (λ x. x ++ more) (ap (λ y. flat_map line_text lines ++ y) (sym (append-nil (line_text l))) ∙ sym (flat_map-append line_text lines (l ∷ [])))

abbrev pub BelowLast : List Line → Line → Type 0
BelowLast lines l = IfSome (last_line lines) (λ s. order (key_of s) (key_of l) ≡ Less)

pub stands_more : (version : Version) (t : List ℕ) (lines : List Line) (l : Line) (rest more : List ℕ) → Stands version t lines rest → rest ≡ line_text l ++ more → IsLine version l → SiteFirst (lines ++ l ∷ []) → BelowLast lines l → Stands version t (lines ++ l ∷ []) more
stands_more version t lines l rest more s text is site below = record {
  parts = s.parts ∙ ap (λ x. head_text version ++ x) (ap (λ r. flat_map line_text lines ++ r) text ∙ texts_more lines l more);
  each = all_more (IsLine version) lines l s.each is;
  ascends = Ascends-more key_of lines l s.ascends below;
  site = site;
}

line_some : (l : Line) → 0 < length (line_text l)
line_some l =
    let long = length-append (word_of l.kind) (spelled l.fields) in
    let end = length-append (flat_map (λ field. 32 ∷ field_text field) l.fields) (10 ∷ []) in
    omega (arith, long, end)

shorter : (l : Line) (rest more : List ℕ) → rest ≡ line_text l ++ more → length more < length rest
shorter l rest more e =
    let some = line_some l in
    let long = ap length e ∙ length-append (line_text l) more in
    omega (arith, some, long)

-- the row with this key was the last, or the last line is of a kind before
abbrev Ready : Kind → Option (List ℕ) → List Line → Type 0
Ready kind None lines = IfSome (last_line lines) (λ l. place_of l.kind < place_of kind)
Ready kind (Some key) lines = (l : Line) × (last_line lines ≡ Some l) × (key_of l ≡ place_of kind ∷ key)

ready_below : (kind : Kind) (lines : List Line) (fs : List Field) → Ready kind None lines → BelowLast lines (line_of kind fs)
ready_below kind lines fs ready = by_last (last_line lines) ready
  where
    by_last : (o : Option Line) → IfSome o (λ l. place_of l.kind < place_of kind) → IfSome o (λ s. order (key_of s) (key_of (line_of kind fs)) ≡ Less)
    by_last None ready = tt
    by_last (Some l) ready =
        heads_less (place_of l.kind) (place_of kind) (flat_map field_key (take (key_length l.kind) l.fields)) (key_in kind fs) ready

-- the lines of rows of some kinds, kind by kind
abbrev pub section_lines : List Kind → List (List (List Field)) → List Line
section_lines [] xss = []
section_lines (kind ∷ kinds) [] = []
section_lines (kind ∷ kinds) (rows ∷ xss) = map (line_of kind) rows ++ section_lines kinds xss

module _ (version : Version) (t : List ℕ) where
  -- the text has the fault; on lists memory doesn't run out
  abbrev pub Faulty : Misread → Type 0
  Faulty NoMemory = ⊥
  Faulty misread = DumpAnswer version t (Err (fault_of t misread))

  pub bad_here : (lines : List Line) (rest : List ℕ) → Stands version t lines rest → ¬ (IsLineOrEnd version lines rest) → Faulty (Bad (length rest))
  bad_here lines rest s never = inr (inl (lines, rest, s, line_number version t lines rest s, never))

  pub clash_here : (how : Ordering) (lines : List Line) (kind : Kind) (fs : List Field) (rest more : List ℕ) (last : Line) → Stands version t lines rest
      → line_at version kind rest ≡ Some (Some (fs, more)) → last_line lines ≡ Some last → order (key_of last) (key_of (line_of kind fs)) ≡ how
      → ClashesAt how version t (line_with_left t (length rest))
  clash_here how lines kind fs rest more last s at is_last compare = (
    lines,
    rest,
    s,
    line_number version t lines rest s,
    record {
      last = last;
      line = line_of kind fs;
      is_last = is_last;
      begins = record { more = more; is_line = read_line version kind rest fs more at; text = line_found version kind rest fs more at };
      compare = compare;
    },
  )

  abbrev pub RowsStand : Kind → List Line → Result (List (List Field) × List ℕ) Misread → Type 0
  RowsStand kind lines (Ok x) = Stands version t (lines ++ map (line_of kind) x.0) x.1 × (line_at version kind x.1 ≡ Some None)
  RowsStand kind lines (Err misread) = Faulty misread

  abbrev row_added : List Field → Result (List (List Field) × List ℕ) Misread → Result (List (List Field) × List ℕ) Misread
  row_added fs r = r >>= λ s. Ok (fs ∷ s.0, s.1)

  added_stand : (kind : Kind) (lines : List Line) (fs : List Field) (r : Result (List (List Field) × List ℕ) Misread) → RowsStand kind (lines ++ line_of kind fs ∷ []) r → RowsStand kind lines (row_added fs r)
  added_stand kind lines fs (Err misread) faulty = faulty
  added_stand kind lines fs (Ok x) stands = (
    subst (λ ls. Stands version t ls x.1) (append_assoc lines (line_of kind fs ∷ []) (map (line_of kind) x.0)) stands.0,
    stands.1,
  )

  abbrev Again : Kind → ℕ → Type 0
  Again kind n = (last : Option (List ℕ)) (lines : List Line) (rest : List ℕ) → length rest < n → Stands version t lines rest → 0 < length lines → Ready kind last lines
      → RowsStand kind lines (rows_from n version kind last rest)

  goes_on : (kind : Kind) (n : ℕ) → Again kind n → (lines : List Line) (rest : List ℕ) (fs : List Field) (more : List ℕ) → length rest < suc n → Stands version t lines rest → 0 < length lines
      → line_at version kind rest ≡ Some (Some (fs, more)) → BelowLast lines (line_of kind fs) → RowsStand kind lines (behind_row (rows_from n version kind) kind (fs, more))
  goes_on kind n again lines rest fs more less s some at below =
      let l = line_of kind fs in
      let text = line_found version kind rest fs more at in
      let less_more = shorter l rest more text in
      let long = length-append lines (l ∷ []) in
      let stands = stands_more version t lines l rest more s text (read_line version kind rest fs more at) (site_kept lines (l ∷ []) some s.site) below in
      added_stand kind lines fs (rows_from n version kind (Some (key_in kind fs)) more)
      (again (Some (key_in kind fs)) (lines ++ l ∷ []) more (omega arith) stands (omega arith) (l, last_of lines l, refl))

  by_order : (kind : Kind) (n : ℕ) → Again kind n → (key : List ℕ) (lines : List Line) (rest : List ℕ) (fs : List Field) (more : List ℕ) → length rest < suc n → Stands version t lines rest → 0 < length lines
      → Ready kind (Some key) lines → line_at version kind rest ≡ Some (Some (fs, more)) → (o : Ordering) → order key (key_in kind fs) ≡ o
      → RowsStand kind lines (unless (match_ordering o None (Some (Twice (length rest))) (Some (Order (length rest)))) (fs, more) >>= behind_row (rows_from n version kind) kind)
  by_order kind n again key lines rest fs more less s some ready at o e = by_case o (compared o e)
    where
      compared : (o : Ordering) → order key (key_in kind fs) ≡ o → order (key_of ready.0) (key_of (line_of kind fs)) ≡ o
      compared o e = ap (λ k. order k (key_of (line_of kind fs))) ready.2 ∙ (heads_same (place_of kind) key (key_in kind fs) ∙ e)

      by_case : (o : Ordering) → order (key_of ready.0) (key_of (line_of kind fs)) ≡ o
          → RowsStand kind lines (unless (match_ordering o None (Some (Twice (length rest))) (Some (Order (length rest)))) (fs, more) >>= behind_row (rows_from n version kind) kind)
      by_case Less c = goes_on kind n again lines rest fs more less s some at (subst (λ o. IfSome o (λ s. order (key_of s) (key_of (line_of kind fs)) ≡ Less)) (sym ready.1) c)
      by_case Equal c = clash_here Equal lines kind fs rest more ready.0 s at ready.1 c
      by_case Greater c = clash_here Greater lines kind fs rest more ready.0 s at ready.1 c

  by_last : (kind : Kind) (n : ℕ) → Again kind n → (last : Option (List ℕ)) (lines : List Line) (rest : List ℕ) (fs : List Field) (more : List ℕ) → length rest < suc n → Stands version t lines rest → 0 < length lines
      → Ready kind last lines → line_at version kind rest ≡ Some (Some (fs, more))
      → RowsStand kind lines (unless (misplaced (length rest) last (key_in kind fs)) (fs, more) >>= behind_row (rows_from n version kind) kind)
  by_last kind n again None lines rest fs more less s some ready at = goes_on kind n again lines rest fs more less s some at (ready_below kind lines fs ready)
  by_last kind n again (Some key) lines rest fs more less s some ready at = by_order kind n again key lines rest fs more less s some ready at (order key (key_in kind fs)) refl

  pub rows_stand : (kind : Kind) (n : ℕ) (last : Option (List ℕ)) (lines : List Line) (rest : List ℕ) → length rest < n → Stands version t lines rest → 0 < length lines → Ready kind last lines
      → RowsStand kind lines (rows_from n version kind last rest)
  unfolding rows_from
  rows_stand kind zero last lines rest less s some ready = absurd (omega (arith, less))
  rows_stand kind (suc n) last lines rest less s some ready = by_line (line_at version kind rest) refl (rows_stand kind n)
    where
      by_line : (o : Option (Option (List Field × List ℕ))) → line_at version kind rest ≡ o → Again kind n
          → RowsStand kind lines (begun (length rest) o >>= λ p. more_with (rows_from n version kind) kind last rest p)
      by_line None at again = bad_here lines rest s (misfit version kind lines rest some at)
      by_line (Some None) at again = (subst (λ ls. Stands version t ls rest) (sym (append-nil lines)) s, at)
      by_line (Some (Some (fs, more))) at again = by_last kind n again last lines rest fs more less s some ready at

  -- The kinds up to a place have been read: none of their lines can stand here, or the last line is of a kind behind.
  pub record Past (lines : List Line) (rest : List ℕ) (bound : ℕ) : Type 0 where
    pub last : Line
    pub is_last : last_line lines ≡ Some last
    pub most : place_of last.kind ≤ bound
    pub alone : (length lines ≡ 1) ⊎ (1 < place_of last.kind)
    pub passed : (k : Kind) → 1 < place_of k → place_of k ≤ bound → (line_at version k rest ≡ Some None) ⊎ (place_of k < place_of last.kind)

  last_mapped : (kind : Kind) (lines : List Line) (row : List Field) (rows : List (List Field)) → (fs : List Field) × (last_line (lines ++ map (line_of kind) (row ∷ rows)) ≡ Some (line_of kind fs))
  last_mapped kind lines row [] = (row, last_of lines (line_of kind row))
  last_mapped kind lines row (next ∷ rows) =
      let more = last_mapped kind (lines ++ line_of kind row ∷ []) next rows in
      (more.0, ap last_line (sym (append_assoc lines (line_of kind row ∷ []) (map (line_of kind) (next ∷ rows)))) ∙ more.1)

  at_bound : (kind k : Kind) (bound : ℕ) → place_of kind ≡ suc bound → place_of k ≤ suc bound → (kind ≡ k) ⊎ (place_of k ≤ bound)
  at_bound kind k bound next low = by_kind (same_kind kind k)
    where
      by_kind : (kind ≡ k) ⊎ (place_of kind ≢ place_of k) → (kind ≡ k) ⊎ (place_of k ≤ bound)
      by_kind (inl e) = inl e
      by_kind (inr apart) = inr (omega arith)

  past_more : (kind : Kind) (bound : ℕ) (lines : List Line) (rest : List ℕ) (rows : List (List Field)) (more : List ℕ) → place_of kind ≡ suc bound → Past lines rest bound
      → rest ≡ texts kind rows ++ more → line_at version kind more ≡ Some None → Past (lines ++ map (line_of kind) rows) more (suc bound)
  past_more kind bound lines rest [] more next past text stop = record {
    last = past.last;
    is_last = ap last_line (append-nil lines) ∙ past.is_last;
    most = (let low = past.most in omega arith);
    alone = subst (λ ls. (length ls ≡ 1) ⊎ (1 < place_of past.last.kind)) (sym (append-nil lines)) past.alone;
    passed = (λ k some low. by_place k some (at_bound kind k bound next low));
  }
    where
      by_place : (k : Kind) → 1 < place_of k → (kind ≡ k) ⊎ (place_of k ≤ bound) → (line_at version k more ≡ Some None) ⊎ (place_of k < place_of past.last.kind)
      by_place k some (inl e) = inl (subst (λ k. line_at version k more ≡ Some None) e stop)
      by_place k some (inr low) = subst (λ r. (line_at version k r ≡ Some None) ⊎ (place_of k < place_of past.last.kind)) text (past.passed k some low)
  past_more kind bound lines rest (row ∷ rows) more next past text stop =
      let end = last_mapped kind lines row rows in
      let some = place_some past.last.kind in
      let low = past.most in
      record {
        last = line_of kind end.0;
        is_last = end.1;
        most = (omega arith);
        alone = inr (omega arith);
        passed = (λ k some low. by_place k (at_bound kind k bound next low));
      }
    where
      by_place : (k : Kind) → (kind ≡ k) ⊎ (place_of k ≤ bound) → (line_at version k more ≡ Some None) ⊎ (place_of k < place_of kind)
      by_place k (inl e) = inl (subst (λ k. line_at version k more ≡ Some None) e stop)
      by_place k (inr low) = inr (omega arith)

  -- the kinds stand at the places behind the bound, one after the other
  abbrev pub Consecutive : ℕ → List Kind → Type 0
  Consecutive bound [] = Unit {0}
  Consecutive bound (kind ∷ kinds) = (place_of kind ≡ suc bound) × Consecutive (suc bound) kinds

  abbrev pub bound_behind : ℕ → List Kind → ℕ
  bound_behind bound [] = bound
  bound_behind bound (kind ∷ kinds) = bound_behind (suc bound) kinds

  abbrev pub SectionsStand : ℕ → List Kind → List Line → Result (List (List (List Field)) × List ℕ) Misread → Type 0
  SectionsStand bound kinds lines (Ok x) =
      Stands version t (lines ++ section_lines kinds x.0) x.1 × Past (lines ++ section_lines kinds x.0) x.1 (bound_behind bound kinds)
      × (length (section_lines kinds x.0) ≡ total x.0) × (length x.0 ≡ length kinds)
  SectionsStand bound kinds lines (Err misread) = Faulty misread

  abbrev section_added : List (List Field) → Result (List (List (List Field)) × List ℕ) Misread → Result (List (List (List Field)) × List ℕ) Misread
  section_added rows r = r >>= λ x. Ok (rows ∷ x.0, x.1)

  section_stands : (kind : Kind) (kinds : List Kind) (bound : ℕ) (lines : List Line) (rows : List (List Field)) (r : Result (List (List (List Field)) × List ℕ) Misread)
      → SectionsStand (suc bound) kinds (lines ++ map (line_of kind) rows) r → SectionsStand bound (kind ∷ kinds) lines (section_added rows r)
  section_stands kind kinds bound lines rows (Err misread) faulty = faulty
  section_stands kind kinds bound lines rows (Ok x) (stands, past, count, each_kind) =
      let whole = append_assoc lines (map (line_of kind) rows) (section_lines kinds x.0) in
      let long = length-append (map (line_of kind) rows) (section_lines kinds x.0) in
      let each = length-map rows (line_of kind) in (
        subst (λ ls. Stands version t ls x.1) whole stands,
        subst (λ ls. Past ls x.1 (bound_behind bound (kind ∷ kinds))) whole past,
        omega (arith, long, each, count),
        ap suc each_kind,
      )

  some_lines : (lines : List Line) (l : Line) → last_line lines ≡ Some l → 0 < length lines
  some_lines [] l e = absurd (none_some l e)
  some_lines (m ∷ lines) l e = omega arith

  pub sections_stand : (kinds : List Kind) (bound : ℕ) (lines : List Line) (rest : List ℕ) → Consecutive bound kinds → Stands version t lines rest → Past lines rest bound
      → SectionsStand bound kinds lines (sections_at version kinds rest)
  sections_stand [] bound lines rest next s past = (
    subst (λ ls. Stands version t ls rest) (sym (append-nil lines)) s,
    subst (λ ls. Past ls rest bound) (sym (append-nil lines)) past,
    refl,
    refl,
  )
  sections_stand (kind ∷ kinds) bound lines rest next s past =
      by_section (section version kind rest) refl
      (rows_stand kind (suc (length rest)) None lines rest (omega arith) s (some_lines lines past.last past.is_last) ready) (sections_stand kinds)
    where
      ready : Ready kind None lines
      ready =
          let low = past.most in
          let here = next.0 in
          subst (λ o. IfSome o (λ l. place_of l.kind < place_of kind)) (sym past.is_last) (let less : place_of past.last.kind < place_of kind = omega arith in less)

      by_section : (r : Result (List (List Field) × List ℕ) Misread) → section version kind rest ≡ r → RowsStand kind lines r
          → ((bound : ℕ) (lines : List Line) (rest : List ℕ) → Consecutive bound kinds → Stands version t lines rest → Past lines rest bound → SectionsStand bound kinds lines (sections_at version kinds rest))
          → SectionsStand bound (kind ∷ kinds) lines (r >>= λ s. section_added s.0 (sections_at version kinds s.1))
      by_section (Err misread) at faulty again = faulty
      by_section (Ok x) at stands again =
          section_stands kind kinds bound lines x.0 (sections_at version kinds x.1)
          (again (suc bound) (lines ++ map (line_of kind) x.0) x.1 next.1 stands.0
          (past_more kind bound lines rest x.0 x.1 next.0 past (rows_found (suc (length rest)) version kind None rest x.0 x.1 at) stands.1))
