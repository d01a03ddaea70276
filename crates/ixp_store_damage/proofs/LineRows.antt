-- Rows are read as their lines.
use Rattle.std.proofs.Common.{◌≡◌, ◌≢◌, ◌↔◌, ℕ, ◌<◌, ◌^◌, List, [], ◌∷◌, ◌++◌, append-nil, append_assoc, length, length-append, flat_map, take, decimal, Option, Some, None, IfSome, refl, sym, ap, ◌∙◌, subst, arith}
use Rattle.std.specs.List.{AllByRecursion}
use Rattle.std.specs.declared.cmp.Ordering.TheVariants.{Less}
use Rattle.ixp_io.specs.declared.keeper.Change.{Change}
use Rattle.ixp_num.specs.AddressForms.{version_of}
use Rattle.ixp_num.specs.declared.family.Family.{Family}
use Rattle.ixp_num_tables.specs.Tables.{order, Ascends}
use Rattle.ixp_num_tables.proofs.Orders.{all_weaker, chained}
use Rattle.ixp_registry.specs.declared.kind.Kind.{Kind}
use Rattle.ixp_registry.specs.Kinds.{word_of}
use Rattle.ixp_rows_lines.specs.declared.version.Version.TheVariants.{Two}
use Rattle.ixp_rows_lines.specs.Fields.{Field, AllFit, field_text}
use Rattle.ixp_rows_lines.specs.Lines.{form_of, place_of, spelled, text_of}
use Rattle.ixp_rows_lines.specs.Reading.{◌>>=◌, fields_at}
use Rattle.ixp_rows_lines.proofs.Again.{fields_again, form_clear}
use Rattle.ixp_rows_lines.proofs.Fitting.{fields_fit}
use Rattle.ixp_rows_lines.proofs.Spelling.{some_is, none_some, fields_found}
use Rattle.ixp_rows.specs.Reading.{after_text, key_in}
use Rattle.ixp_rows.proofs.LinesAgain.{after_again, after_found}
use Rattle.ixp_store_rows.specs.Names.{Entry, fields_row, list_name}
use Rattle.ixp_store_rows.specs.States.{set_row}
use Rattle.ixp_store_damage.specs.Damages.{IsLineRow, IsListRow}
use Rattle.ixp_store_damage.specs.Loading.{front_at}
use Rattle.ixp_store_damage.specs.Walking.{AreLines, MayFollow}
use Rattle.ixp_store_damage.proofs.SectionLines.{body_text}

abbrev Read : Type 0
Read = Option (List Field × List ℕ)

-- the line that stands first
front_again : (kind : Kind) (ds : List Field) (more : List ℕ) → AllFit (form_of Two kind) ds → front_at kind (text_of kind ds ++ more) ≡ Some (ds, more)
front_again kind ds more fits =
    ap (front_at kind) (append_assoc (word_of kind) (spelled ds) more)
    ∙ (ap (λ o. o >>= fields_at (form_of Two kind)) (after_again (word_of kind) (spelled ds ++ more)) ∙ fields_again (form_of Two kind) ds more (form_clear Two kind) fits)

front_found : (kind : Kind) (t : List ℕ) (ds : List Field) (more : List ℕ) → front_at kind t ≡ Some (ds, more) → AllFit (form_of Two kind) ds × (t ≡ text_of kind ds ++ more)
front_found kind t ds more e = by_front (after_text (word_of kind) t) refl e
  where
    by_front : (o : Option (List ℕ)) → after_text (word_of kind) t ≡ o → (o >>= fields_at (form_of Two kind)) ≡ Some (ds, more) → AllFit (form_of Two kind) ds × (t ≡ text_of kind ds ++ more)
    by_front None at e = absurd (none_some (ds, more) e)
    by_front (Some rest) at e = (
      fields_fit (form_of Two kind) rest ds more e,
      after_found (word_of kind) t rest at ∙ (ap (λ r. word_of kind ++ r) (fields_found (form_of Two kind) rest ds more e) ∙ sym (append_assoc (word_of kind) (spelled ds) more)),
    )

-- Rows of one line
row_front : (kind : Kind) (e : Entry) (t : List ℕ) → t ≡ e.1 ++ 10 ∷ [] → (ds : List Field) → AllFit (form_of Two kind) ds → e ≡ fields_row kind ds → front_at kind t ≡ Some (ds, [])
unfolding fields_row
row_front kind e t text ds fits is =
    ap (front_at kind) (text ∙ (ap (λ (x : Entry). x.1 ++ 10 ∷ []) is ∙ (body_text kind ds ∙ sym (append-nil (text_of kind ds))))) ∙ front_again kind ds [] fits

pub no_line : (kind : Kind) (e : Entry) (t : List ℕ) → t ≡ e.1 ++ 10 ∷ [] → front_at kind t ≡ None → ¬ (IsLineRow kind e)
no_line kind e t text none is = none_some (is.0, []) (sym none ∙ row_front kind e t text is.0 is.1 is.2)

-- a change that puts one row in puts in no other
pub set_told : (a b : Entry) → set_row a ≡ set_row b → a ≡ b
set_told a b e =
    let name = ap (λ (c : Change). c.name) e in
    let body = some_is a.1 b.1 (ap (λ (c : Change). c.body) e) in
    (λ i. (name i, body i))

-- a row is one of the kind where its line's row is the same
pub row_found :
    (kind : Kind) (e : Entry) (t : List ℕ) → t ≡ e.1 ++ 10 ∷ [] → (ds : List Field) (more : List ℕ) → front_at kind t ≡ Some (ds, more) → (c : Change) → c ≡ set_row (fields_row kind ds)
    → (c ≡ set_row e) ↔ IsLineRow kind e
row_found kind e t text ds more at c set = (
  (λ same. (ds, (front_found kind t ds more at).0, set_told e (fields_row kind ds) (sym same ∙ set))),
  (λ is.
      let one = some_is (ds, more) (is.0, []) (sym at ∙ row_front kind e t text is.0 is.1 is.2) in
      set ∙ ap set_row (ap (fields_row kind) (ap (λ (x : List Field × List ℕ). x.0) one) ∙ sym is.2)),
)

-- Lines of a list
module _ (kind : Kind) (member : ℕ) (family : Family) where
  abbrev Lines : Option (List ℕ) → List ℕ → Type 0
  Lines = AreLines kind member family

  abbrev In : List Field → Type 0
  In ds = take 2 (key_in kind ds) ≡ member ∷ version_of family ∷ []

  abbrev Above : Option (List ℕ) → List Field → Type 0
  Above last ds = IfSome last (λ key. order key (key_in kind ds) ≡ Less)

  pub no_lines : (last : Option (List ℕ)) (text : List ℕ) → text ≡ [] → Lines last text
  no_lines last text none = record { lines = []; each = tt; rising = tt; above = by_last last; spelt = none }
    where
      by_last : (o : Option (List ℕ)) → IfSome o (λ key. AllByRecursion (λ ds. order key (key_in kind ds) ≡ Less) [])
      by_last None = tt
      by_last (Some key) = tt

  line_some : (ds : List Field) (more : List ℕ) → [] ≡ text_of kind ds ++ more → ⊥
  line_some ds more e =
      let none = ap length e in
      let one = length-append (text_of kind ds) more in
      let two = length-append (word_of kind) (spelled ds) in
      let three = length-append (flat_map (λ field. 32 ∷ field_text field) ds) (10 ∷ []) in
      omega (arith, none, one, two, three)

  -- the first line and those behind it
  pub record Parted (last : Option (List ℕ)) (ds : List Field) (behind : List ℕ) : Type 0 where
    pub in_list : In ds
    pub above : Above last ds
    pub others : Lines (Some (key_in kind ds)) behind

  pub parted : (last : Option (List ℕ)) (text behind : List ℕ) (ds : List Field) → front_at kind text ≡ Some (ds, behind) → Lines last text → Parted last ds behind
  parted last text behind ds at a = by_lines a.lines a.each a.rising a.above a.spelt
    where
      above_one : (o : Option (List ℕ)) (l : List Field) (ls : List (List Field)) → IfSome o (λ key. AllByRecursion (λ fs. order key (key_in kind fs) ≡ Less) (l ∷ ls)) → Above o l
      above_one None l ls h = tt
      above_one (Some key) l ls h = h.0

      by_lines : (ls : List (List Field)) → AllByRecursion (λ fs. AllFit (form_of Two kind) fs × In fs) ls → Ascends (key_in kind) ls → IfSome last (λ key. AllByRecursion (λ fs. order key (key_in kind fs) ≡ Less) ls) → text ≡ flat_map (text_of kind) ls → Parted last ds behind
      by_lines [] each up above spelt = absurd (line_some ds behind (sym spelt ∙ (front_found kind text ds behind at).1))
      by_lines (l ∷ ls) each up above spelt =
          let same = some_is (l, flat_map (text_of kind) ls) (ds, behind) (sym (ap (front_at kind) spelt ∙ front_again kind l (flat_map (text_of kind) ls) each.0.0) ∙ at) in
          subst (λ x. Parted last x.0 x.1) same
          (record { in_list = each.0.1; above = above_one last l ls above; others = record { lines = ls; each = each.1; rising = up.1; above = up.0; spelt = refl } })

  pub joined : (last : Option (List ℕ)) (text behind : List ℕ) (ds : List Field) → front_at kind text ≡ Some (ds, behind) → Parted last ds behind → Lines last text
  joined last text behind ds at p = record {
    lines = ds ∷ (p.others).lines;
    each = (((front_found kind text ds behind at).0, p.in_list), (p.others).each);
    rising = ((p.others).above, (p.others).rising);
    above = by_last last p.above;
    spelt = (front_found kind text ds behind at).1 ∙ ap (λ t. text_of kind ds ++ t) (p.others).spelt;
  }
    where
      by_last : (o : Option (List ℕ)) → Above o ds → IfSome o (λ key. AllByRecursion (λ fs. order key (key_in kind fs) ≡ Less) (ds ∷ (p.others).lines))
      by_last None above = tt
      by_last (Some key) above =
          (above, all_weaker (λ fs. order (key_in kind ds) (key_in kind fs) ≡ Less) (λ fs. order key (key_in kind fs) ≡ Less) (λ fs less. chained key (key_in kind ds) (key_in kind fs) above less) (p.others).lines (p.others).above)

  pub unread : (last : Option (List ℕ)) (text : List ℕ) → text ≢ [] → front_at kind text ≡ None → ¬ (Lines last text)
  unread last text some none a = by_lines a.lines a.each a.spelt
    where
      by_lines : (ls : List (List Field)) → AllByRecursion (λ fs. AllFit (form_of Two kind) fs × In fs) ls → text ≡ flat_map (text_of kind) ls → ⊥
      by_lines [] each spelt = some spelt
      by_lines (l ∷ ls) each spelt = none_some (l, flat_map (text_of kind) ls) (sym none ∙ (ap (front_at kind) spelt ∙ front_again kind l (flat_map (text_of kind) ls) each.0.0))

  -- a line that may follow, and one that may not
  pub lines_next : (last : Option (List ℕ)) (text behind : List ℕ) (ds : List Field) (key : List ℕ) → front_at kind text ≡ Some (ds, behind) → key_in kind ds ≡ key → MayFollow member family last key
      → Lines last text ↔ Lines (Some key) behind
  lines_next last text behind ds key at keyed may = (
    (λ a. subst (λ k. Lines (Some k) behind) keyed (parted last text behind ds at a).others),
    (λ a.
        let back = subst (MayFollow member family last) (sym keyed) may in
        joined last text behind ds at (record { in_list = back.0; above = back.1; others = subst (λ k. Lines (Some k) behind) (sym keyed) a })),
  )

  pub lines_stop : (last : Option (List ℕ)) (text behind : List ℕ) (ds : List Field) (key : List ℕ) → front_at kind text ≡ Some (ds, behind) → key_in kind ds ≡ key → ¬ (MayFollow member family last key) → ¬ (Lines last text)
  lines_stop last text behind ds key at keyed never a = let p = parted last text behind ds at a in never (subst (MayFollow member family last) keyed (p.in_list, p.above))

-- Rows of lists
pub list_key : (kind : Kind) (e : Entry) (is : IsListRow kind e) → e.0.key ≡ decimal is.member ++ 32 ∷ decimal (version_of is.family)
list_key kind e is = ap (λ (x : Entry). x.0.key) is.row

pub list_is : (kind : Kind) (e : Entry) (member : ℕ) (family : Family) → member < 2 ^ 32 → e.0.kind ≡ place_of kind → e.0.key ≡ (list_name kind member family).key → e.1 ≢ [] → AreLines kind member family None e.1 → IsListRow kind e
list_is kind e member family small at key some a = record {
  member = member;
  family = family;
  lines = a.lines;
  small = small;
  some = λ none. some (a.spelt ∙ ap (flat_map (text_of kind)) none);
  each = a.each;
  rising = a.rising;
  row = λ i. (record { kind = at i; key = key i }, a.spelt i);
}

module _ (kind : Kind) (e : Entry) (member : ℕ) (family : Family) (read : (m : ℕ) (f : Family) → m < 2 ^ 32 → e.0.key ≡ decimal m ++ 32 ∷ decimal (version_of f) → ◌≡◌ {A = Option (ℕ × Family)} (Some (member, family)) (Some (m, f))) where
  same_list : (is : IsListRow kind e) → ◌≡◌ {A = ℕ × Family} (is.member, is.family) (member, family)
  same_list is = sym (some_is (member, family) (is.member, is.family) (read is.member is.family is.small (list_key kind e is)))

  pub other_name : ¬ (e.0.key ≡ (list_name kind member family).key) → ¬ (IsListRow kind e)
  other_name other is = other (subst (λ x. e.0.key ≡ (list_name kind x.0 x.1).key) (same_list is) (ap (λ (x : Entry). x.0.key) is.row))

  pub list_lines : IsListRow kind e → AreLines kind member family None e.1
  list_lines is =
      subst (λ x. AreLines kind x.0 x.1 None e.1) (same_list is) (record { lines = is.lines; each = is.each; rising = is.rising; above = tt; spelt = ap (λ (x : Entry). x.1) is.row })

pub no_list : (kind : Kind) (e : Entry) → ((m : ℕ) (f : Family) → m < 2 ^ 32 → e.0.key ≡ decimal m ++ 32 ∷ decimal (version_of f) → ◌≡◌ {A = Option (ℕ × Family)} None (Some (m, f))) → ¬ (IsListRow kind e)
no_list kind e read is = none_some (is.member, is.family) (read is.member is.family is.small (list_key kind e is))

pub empty_list : (kind : Kind) (e : Entry) → e.1 ≡ [] → ¬ (IsListRow kind e)
empty_list kind e none is = by_lines is.lines is.some (sym none ∙ ap (λ (x : Entry). x.1) is.row)
  where
    by_lines : (ls : List (List Field)) → ls ≢ [] → [] ≡ flat_map (text_of kind) ls → ⊥
    by_lines [] some spelt = some refl
    by_lines (l ∷ ls) some spelt = line_some kind is.member is.family l (flat_map (text_of kind) ls) spelt
