-- The lines of right rows: rows of a kind with the same key have one name, and in the order of their first lines all their lines ascend.
use Rattle.std.proofs.Common.{◌≡◌, ◌≢◌, ◌⊎◌, inl, inr, ℕ, zero, suc, ◌<◌, ◌≤◌, ◌==◌, ◌||◌, Bool, true, false, List, [], ◌∷◌, ◌++◌, append-nil, append_assoc, map, flat_map, take, Option, Some, None, refl, sym, ap, ◌∙◌, subst, arith}
use Rattle.std.specs.List.{AllByRecursion}
use Rattle.std.specs.Ordering.{is_lt}
use Rattle.std.specs.declared.cmp.Ordering.{Ordering}
use Rattle.std.specs.declared.cmp.Ordering.TheVariants.{Less, Equal, Greater}
use Rattle.ixp_io.specs.Tables.{name_bytes}
use Rattle.ixp_num.specs.AddressForms.{version_of}
use Rattle.ixp_num.specs.declared.family.Family.{Family}
use Rattle.ixp_num.proofs.SameParts.{family_same}
use Rattle.ixp_num_tables.specs.Tables.{order, same, Ascends}
use Rattle.ixp_num_tables.proofs.AllItems.{all_true}
use Rattle.ixp_num_tables.proofs.Counts.{same_itself}
use Rattle.ixp_num_tables.proofs.FirstNumbers.{less_first, same_first}
use Rattle.ixp_num_tables.proofs.Orders.{all_weaker, order_equal, turned}
use Rattle.ixp_registry.specs.declared.kind.Kind.{Kind}
use Rattle.ixp_registry.specs.declared.kind.Kind.TheVariants.{Sites, Members, Contacts, Keys, Switches, Ports, Vlans, Interfaces, Addresses, Routers, Prefixes, Origins, Rules, Bogons, BogonAs, Transit, Roas}
use Rattle.ixp_rows_lines.specs.declared.version.Version.TheVariants.{Two}
use Rattle.ixp_rows_lines.specs.Fields.{Field, Number, Octet, Handle, Address, Net, Bounds, Piece, ANumber, AnOctet, AnAddress, ANet, ABounds, Fits, AllFit}
use Rattle.ixp_rows_lines.specs.Lines.{form_of, place_of, text_of, field_key}
use Rattle.ixp_rows.specs.Reading.{key_in}
use Rattle.ixp_store_rows.specs.Names.{Entry, fields_row, name_field, name_fields, name_of}
use Rattle.ixp_store_damage.specs.Damages.{IsLineRow, IsListRow, IsRowOf, entry_text, has_whole_lines}
use Rattle.ixp_store_damage.specs.Loading.{front_at, line_said, line_key, key_said}
use Rattle.ixp_store_words.specs.Opening.{entry_name}
use Rattle.ixp_store_damage.specs.Walking.{is_listed}
use Rattle.ixp_store_damage.proofs.BrokenLines.{line_text, whole_text}
use Rattle.ixp_store_damage.proofs.SectionLines.{Said, body_text, front_told, row_told}
use Rattle.ixp_store_damage.proofs.Walks.{either_way, row_kind, row_plain, row_listed}

-- Fields whose keys have a fixed length tell what stands in a name.
abbrev IsFixed : Piece → Type 0
IsFixed ANumber = Unit {0}
IsFixed AnOctet = Unit {0}
IsFixed AnAddress = Unit {0}
IsFixed ANet = Unit {0}
IsFixed ABounds = Unit {0}
IsFixed piece = ⊥

pub first_of : (m n : ℕ) (x y : List ℕ) → m ∷ x ≡ n ∷ y → m ≡ n
first_of m n x y e = cc

pub rest_of : (m n : ℕ) (x y : List ℕ) → m ∷ x ≡ n ∷ y → x ≡ y
rest_of m n x y e = cc

abbrev Told : Field → Field → List ℕ → List ℕ → Type 0
Told f g x y = (name_field f ≡ name_field g) × (x ≡ y)

number_told : (f g : Field) → Fits ANumber f → Fits ANumber g → (x y : List ℕ) → field_key f ++ x ≡ field_key g ++ y → Told f g x y
number_told (Number m) (Number n) a b x y e = (ap Number (first_of m n x y e), rest_of m n x y e)
number_told (Number m) g a b x y e = absurd b
number_told f g a b x y e = absurd a

octet_told : (f g : Field) → Fits AnOctet f → Fits AnOctet g → (x y : List ℕ) → field_key f ++ x ≡ field_key g ++ y → Told f g x y
octet_told (Octet m) (Octet n) a b x y e = (ap Octet (first_of m n x y e), rest_of m n x y e)
octet_told (Octet m) g a b x y e = absurd b
octet_told f g a b x y e = absurd a

address_told : (f g : Field) → Fits AnAddress f → Fits AnAddress g → (x y : List ℕ) → field_key f ++ x ≡ field_key g ++ y → Told f g x y
address_told (Address k v) (Address l w) a b x y e = (ap Number (first_of (version_of k) (version_of l) x y e), rest_of (version_of k) (version_of l) x y e)
address_told (Address k v) g a b x y e = absurd b
address_told f g a b x y e = absurd a

net_told : (f g : Field) → Fits ANet f → Fits ANet g → (x y : List ℕ) → field_key f ++ x ≡ field_key g ++ y → Told f g x y
net_told (Net k v m) (Net l w n) a b x y e =
    let e1 = rest_of (version_of k) (version_of l) (v ∷ m ∷ x) (w ∷ n ∷ y) e in
    let e2 = rest_of v w (m ∷ x) (n ∷ y) e1 in
    let family = family_same k l (first_of (version_of k) (version_of l) (v ∷ m ∷ x) (w ∷ n ∷ y) e) in
    let value = first_of v w (m ∷ x) (n ∷ y) e1 in
    let len = first_of m n x y e2 in
    ((λ i. Net (family i) (value i) (len i)), rest_of m n x y e2)
net_told (Net k v m) g a b x y e = absurd b
net_told f g a b x y e = absurd a

bounds_told : (f g : Field) → Fits ABounds f → Fits ABounds g → (x y : List ℕ) → field_key f ++ x ≡ field_key g ++ y → Told f g x y
bounds_told (Bounds k v m p q) (Bounds l w n r s) a b x y e =
    let e1 = rest_of (version_of k) (version_of l) (v ∷ m ∷ p ∷ q ∷ x) (w ∷ n ∷ r ∷ s ∷ y) e in
    let e2 = rest_of v w (m ∷ p ∷ q ∷ x) (n ∷ r ∷ s ∷ y) e1 in
    let e3 = rest_of m n (p ∷ q ∷ x) (r ∷ s ∷ y) e2 in
    let e4 = rest_of p r (q ∷ x) (s ∷ y) e3 in
    let family = family_same k l (first_of (version_of k) (version_of l) (v ∷ m ∷ p ∷ q ∷ x) (w ∷ n ∷ r ∷ s ∷ y) e) in
    let value = first_of v w (m ∷ p ∷ q ∷ x) (n ∷ r ∷ s ∷ y) e1 in
    let len = first_of m n (p ∷ q ∷ x) (r ∷ s ∷ y) e2 in
    let low = first_of p r (q ∷ x) (s ∷ y) e3 in
    let high = first_of q s x y e4 in
    ((λ i. Bounds (family i) (value i) (len i) (low i) (high i)), rest_of q s x y e4)
bounds_told (Bounds k v m p q) g a b x y e = absurd b
bounds_told f g a b x y e = absurd a

field_told : (p : Piece) → IsFixed p → (f g : Field) → Fits p f → Fits p g → (x y : List ℕ) → field_key f ++ x ≡ field_key g ++ y → Told f g x y
field_told ANumber fixed f g a b x y e = number_told f g a b x y e
field_told AnOctet fixed f g a b x y e = octet_told f g a b x y e
field_told AnAddress fixed f g a b x y e = address_told f g a b x y e
field_told ANet fixed f g a b x y e = net_told f g a b x y e
field_told ABounds fixed f g a b x y e = bounds_told f g a b x y e
field_told p fixed f g a b x y e = absurd fixed

abbrev AreFixed : ℕ → List Piece → Type 0
AreFixed zero form = Unit {0}
AreFixed (suc n) [] = Unit {0}
AreFixed (suc n) (p ∷ form) = IsFixed p × AreFixed n form

fields_told : (n : ℕ) (form : List Piece) (fs gs : List Field) → AreFixed n form → AllFit form fs → AllFit form gs → flat_map field_key (take n fs) ≡ flat_map field_key (take n gs)
    → map name_field (take n fs) ≡ map name_field (take n gs)
fields_told zero form fs gs fixed a b e = refl
fields_told (suc n) [] [] [] fixed a b e = refl
fields_told (suc n) [] [] (g ∷ gs) fixed a b e = absurd b
fields_told (suc n) [] (f ∷ fs) gs fixed a b e = absurd a
fields_told (suc n) (p ∷ form) [] gs fixed a b e = absurd a
fields_told (suc n) (p ∷ form) (f ∷ fs) [] fixed a b e = absurd b
fields_told (suc n) (p ∷ form) (f ∷ fs) (g ∷ gs) fixed a b e =
    let one = field_told p fixed.0 f g a.0 b.0 (flat_map field_key (take n fs)) (flat_map field_key (take n gs)) e in
    ap (λ h. h ∷ map name_field (take n fs)) one.0 ∙ ap (λ hs. name_field g ∷ hs) (fields_told n form fs gs fixed.1 a.1 b.1 one.1)

-- a route server's handle is its key
handle_told : (fs gs : List Field) → AllFit (form_of Two Routers) fs → AllFit (form_of Two Routers) gs → key_in Routers fs ≡ key_in Routers gs → name_fields Routers fs ≡ name_fields Routers gs
handle_told (Handle t ∷ fs) (Handle u ∷ gs) a b e = ap (λ x. Handle x ∷ []) (sym (append-nil t) ∙ (e ∙ append-nil u))
handle_told (Handle t ∷ fs) (g ∷ gs) a b e = absurd b.0
handle_told (Handle t ∷ fs) [] a b e = absurd b
handle_told (f ∷ fs) gs a b e = absurd a.0
handle_told [] gs a b e = absurd a

names_told : (kind : Kind) → is_listed kind ≡ false → (fs gs : List Field) → AllFit (form_of Two kind) fs → AllFit (form_of Two kind) gs → key_in kind fs ≡ key_in kind gs → name_fields kind fs ≡ name_fields kind gs
names_told Routers plain fs gs a b e = handle_told fs gs a b e
names_told Prefixes plain fs gs a b e = absurd (let bad : true ≡ false = plain in cc)
names_told Origins plain fs gs a b e = absurd (let bad : true ≡ false = plain in cc)
names_told Sites plain fs gs a b e = fields_told 0 (form_of Two Sites) fs gs tt a b e
names_told Members plain fs gs a b e = fields_told 1 (form_of Two Members) fs gs (tt, tt) a b e
names_told Contacts plain fs gs a b e = fields_told 2 (form_of Two Contacts) fs gs (tt, (tt, tt)) a b e
names_told Keys plain fs gs a b e = fields_told 1 (form_of Two Keys) fs gs (tt, tt) a b e
names_told Switches plain fs gs a b e = fields_told 1 (form_of Two Switches) fs gs (tt, tt) a b e
names_told Ports plain fs gs a b e = fields_told 1 (form_of Two Ports) fs gs (tt, tt) a b e
names_told Vlans plain fs gs a b e = fields_told 1 (form_of Two Vlans) fs gs (tt, tt) a b e
names_told Interfaces plain fs gs a b e = fields_told 1 (form_of Two Interfaces) fs gs (tt, tt) a b e
names_told Addresses plain fs gs a b e = fields_told 2 (form_of Two Addresses) fs gs (tt, (tt, tt)) a b e
names_told Rules plain fs gs a b e = fields_told 2 (form_of Two Rules) fs gs (tt, (tt, tt)) a b e
names_told Bogons plain fs gs a b e = fields_told 1 (form_of Two Bogons) fs gs (tt, tt) a b e
names_told BogonAs plain fs gs a b e = fields_told 2 (form_of Two BogonAs) fs gs (tt, (tt, tt)) a b e
names_told Transit plain fs gs a b e = fields_told 1 (form_of Two Transit) fs gs (tt, tt) a b e
names_told Roas plain fs gs a b e = fields_told 3 (form_of Two Roas) fs gs (tt, (tt, (tt, tt))) a b e

-- Rows of a kind, and the fields of the lines that they are.
abbrev pub lines_of : (kind : Kind) (listed : Bool) → is_listed kind ≡ listed → (e : Entry) → IsRowOf kind e → List (List Field)
lines_of kind true at e is = (row_listed kind e at is).lines
lines_of kind false at e is = (row_plain kind e at is).0 ∷ []

abbrev pub lines_in : (kind : Kind) (e : Entry) → IsRowOf kind e → List (List Field)
lines_in kind e is = lines_of kind (is_listed kind) refl e is

pub has_whole : (kind : Kind) (e : Entry) → e.0.kind ≡ place_of kind → has_whole_lines e ≡ is_listed kind
has_whole Sites e at = ap (λ n. n == 11 || n == 12) at
has_whole Prefixes e at = ap (λ n. n == 11 || n == 12) at
has_whole Origins e at = ap (λ n. n == 11 || n == 12) at
has_whole kind e at = ap (λ n. n == 11 || n == 12) at

-- what these lines are
abbrev pub first_in : List (List Field) → Option (List Field)
first_in [] = None
first_in (fields ∷ more) = Some fields

pub record AreLinesOf (kind : Kind) (e : Entry) (lines : List (List Field)) : Type 0 where
  pub each : AllByRecursion (λ fields. AllFit (form_of Two kind) fields) lines
  pub rising : Ascends (key_in kind) lines
  pub spelt : entry_text e ≡ flat_map (text_of kind) lines
  pub some : lines ≢ []
  pub said : line_said kind e ≡ first_in lines

pub never_none : {X : Type 0} (x : X) (xs : List X) → x ∷ xs ≢ []
never_none x xs e = cc

list_told : (P : List Field → Type 0) (kind : Kind) (e : Entry) (lines : List (List Field)) → AllByRecursion (λ fields. AllFit (form_of Two kind) fields × P fields) lines → lines ≢ [] → e.1 ≡ flat_map (text_of kind) lines
    → line_said kind e ≡ first_in lines
unfolding line_said
list_told P kind e [] each some spelt = absurd (some refl)
list_told P kind e (l ∷ ls) each some spelt =
    ap (λ t. Said (front_at kind (t ++ 10 ∷ []))) spelt
    ∙ (ap (λ t. Said (front_at kind t)) (append_assoc (text_of kind l) (flat_map (text_of kind) ls) (10 ∷ [])) ∙ front_told kind l (flat_map (text_of kind) ls ++ 10 ∷ []) each.0.0)

pub lines_are : (kind : Kind) (e : Entry) (is : IsRowOf kind e) → AreLinesOf kind e (lines_in kind e is)
unfolding fields_row
lines_are kind e is = by_form (is_listed kind) refl
  where
    by_form : (b : Bool) (at : is_listed kind ≡ b) → AreLinesOf kind e (lines_of kind b at e is)
    by_form true at =
        let l = row_listed kind e at is in
        record {
          each = all_weaker (λ fields. AllFit (form_of Two kind) fields × (take 2 (key_in kind fields) ≡ l.member ∷ version_of l.family ∷ [])) (λ fields. AllFit (form_of Two kind) fields) (λ fields both. both.0) l.lines l.each;
          rising = l.rising;
          spelt = whole_text e (has_whole kind e (row_kind kind e is) ∙ at) ∙ ap (λ (x : Entry). x.1) l.row;
          some = l.some;
          said = list_told (λ fields. take 2 (key_in kind fields) ≡ l.member ∷ version_of l.family ∷ []) kind e l.lines l.each l.some (ap (λ (x : Entry). x.1) l.row);
        }
    by_form false at =
        let l = row_plain kind e at is in
        record {
          each = (l.1, tt);
          rising = (tt, tt);
          spelt = line_text e (has_whole kind e (row_kind kind e is) ∙ at) ∙ (ap (λ (x : Entry). x.1 ++ 10 ∷ []) l.2 ∙ (body_text kind l.0 ∙ sym (append-nil (text_of kind l.0))));
          some = never_none l.0 [];
          said = ap (line_said kind) l.2 ∙ row_told kind l.0 l.1;
        }

-- keys that begin with two numbers each
pub record Begins (p q : ℕ) (k : List ℕ) : Type 0 where
  pub more : List ℕ
  pub is : k ≡ p ∷ q ∷ more

pub begins_with : (p q : ℕ) (k : List ℕ) → take 2 k ≡ p ∷ q ∷ [] → Begins p q k
begins_with p q [] e = absurd cc
begins_with p q (x ∷ []) e = absurd (let short = rest_of x p [] (q ∷ []) e in cc)
begins_with p q (x ∷ y ∷ k) e =
    let one = first_of x p (y ∷ []) (q ∷ []) e in
    let two = first_of y q [] [] (rest_of x p (y ∷ []) (q ∷ []) e) in
    record { more = k; is = λ i. one i ∷ two i ∷ k }

module _ (m v n w : ℕ) (apart : m ∷ v ∷ [] ≢ n ∷ w ∷ []) where
  numbers_below : (a b c d : List ℕ) → is_lt (order (n ∷ w ∷ b) (m ∷ v ∷ a)) ≡ false → order (m ∷ v ∷ c) (n ∷ w ∷ d) ≡ Less
  numbers_below a b c d low = by_first (either_way m n) (either_way n m)
    where
      never : order (n ∷ w ∷ b) (m ∷ v ∷ a) ≡ Less → ⊥
      never less = let bad : true ≡ false = sym (ap is_lt less) ∙ low in cc

      by_second : m ≡ n → (w < v) ⊎ (v ≤ w) → (v < w) ⊎ (w ≤ v) → order (m ∷ v ∷ c) (n ∷ w ∷ d) ≡ Less
      by_second e (inl lt) other = absurd (never (subst (λ x. order (n ∷ w ∷ b) (x ∷ v ∷ a) ≡ Less) (sym e) (same_first n (w ∷ b) (v ∷ a) ∙ less_first w v b a lt)))
      by_second e (inr le) (inl lt) = subst (λ x. order (m ∷ v ∷ c) (x ∷ w ∷ d) ≡ Less) e (same_first m (v ∷ c) (w ∷ d) ∙ less_first v w c d lt)
      by_second e (inr le) (inr other) = absurd (apart (let second : v ≡ w = omega (arith, le, other) in (λ i. e i ∷ second i ∷ [])))

      by_first : (n < m) ⊎ (m ≤ n) → (m < n) ⊎ (n ≤ m) → order (m ∷ v ∷ c) (n ∷ w ∷ d) ≡ Less
      by_first (inl lt) other = absurd (never (less_first n m (w ∷ b) (v ∷ a) lt))
      by_first (inr le) (inl lt) = less_first m n (v ∷ c) (w ∷ d) lt
      by_first (inr le) (inr other) = by_second (omega (arith, le, other)) (either_way v w) (either_way w v)

  keys_below : (a b c d : List ℕ) → take 2 a ≡ m ∷ v ∷ [] → take 2 b ≡ n ∷ w ∷ [] → take 2 c ≡ m ∷ v ∷ [] → take 2 d ≡ n ∷ w ∷ [] → is_lt (order b a) ≡ false → order c d ≡ Less
  keys_below a b c d p q r s low =
      let a_is = begins_with m v a p in
      let b_is = begins_with n w b q in
      let c_is = begins_with m v c r in
      let d_is = begins_with n w d s in
      ap (λ k. order k d) c_is.is ∙ (ap (order (m ∷ v ∷ c_is.more)) d_is.is
      ∙ numbers_below a_is.more b_is.more c_is.more d_is.more (ap (λ k. is_lt (order k (m ∷ v ∷ a_is.more))) (sym b_is.is) ∙ (ap (λ k. is_lt (order b k)) (sym a_is.is) ∙ low)))

-- of two rows of a kind in this order
module _ (kind : Kind) (e f : Entry) (a : IsRowOf kind e) (b : IsRowOf kind f) (apart : same (entry_name e) (entry_name f) ≡ false) (low : is_lt (order (line_key kind f) (line_key kind e)) ≡ false) where
  abbrev pub Less_than : List (List Field) → List (List Field) → Type 0
  Less_than xs ys = AllByRecursion (λ x. AllByRecursion (λ y. order (key_in kind x) (key_in kind y) ≡ Less) ys) xs

  named_apart : e.0 ≡ f.0 → ⊥
  named_apart is = let bad : true ≡ false = sym (same_itself (entry_name e)) ∙ (ap (λ n. same (entry_name e) (name_bytes n)) is ∙ apart) in cc

  plain_below : is_listed kind ≡ false → (l : IsLineRow kind e) (m : IsLineRow kind f) → order (key_in kind l.0) (key_in kind m.0) ≡ Less
  unfolding fields_row
  plain_below plain l m = by_order (order (key_in kind l.0) (key_in kind m.0)) refl
    where
      key_e : line_key kind e ≡ key_in kind l.0
      key_e = ap (key_said kind) (ap (line_said kind) l.2 ∙ row_told kind l.0 l.1)

      key_f : line_key kind f ≡ key_in kind m.0
      key_f = ap (key_said kind) (ap (line_said kind) m.2 ∙ row_told kind m.0 m.1)

      by_order : (o : Ordering) → order (key_in kind l.0) (key_in kind m.0) ≡ o → order (key_in kind l.0) (key_in kind m.0) ≡ Less
      by_order Less is = is
      by_order Equal is =
          absurd (named_apart (ap (λ (x : Entry). x.0) l.2 ∙ (ap (name_of kind) (names_told kind plain l.0 m.0 l.1 m.1 (order_equal (key_in kind l.0) (key_in kind m.0) is)) ∙ ap (λ (x : Entry). x.0) (sym m.2))))
      by_order Greater is =
          absurd (let bad : true ≡ false = sym (ap is_lt (turned (key_in kind l.0) (key_in kind m.0) Greater is)) ∙ (ap (λ k. is_lt (order k (key_in kind l.0))) (sym key_f) ∙ (ap (λ k. is_lt (order (line_key kind f) k)) (sym key_e) ∙ low)) in cc)

  abbrev In : ℕ → Family → List Field → Type 0
  In n k fields = AllFit (form_of Two kind) fields × (take 2 (key_in kind fields) ≡ n ∷ version_of k ∷ [])

  lists_below : (l : IsListRow kind e) (m : IsListRow kind f) → Less_than l.lines m.lines
  lists_below l m = by_lines l.lines m.lines l.each m.each (list_told (λ fields. take 2 (key_in kind fields) ≡ l.member ∷ version_of l.family ∷ []) kind e l.lines l.each l.some (ap (λ (x : Entry). x.1) l.row)) (list_told (λ fields. take 2 (key_in kind fields) ≡ m.member ∷ version_of m.family ∷ []) kind f m.lines m.each m.some (ap (λ (x : Entry). x.1) m.row))
    where
      other : l.member ∷ version_of l.family ∷ [] ≢ m.member ∷ version_of m.family ∷ []
      other is =
          let member = first_of l.member m.member (version_of l.family ∷ []) (version_of m.family ∷ []) is in
          let version = first_of (version_of l.family) (version_of m.family) [] [] (rest_of l.member m.member (version_of l.family ∷ []) (version_of m.family ∷ []) is) in
          named_apart (ap (λ (x : Entry). x.0) l.row ∙ ((λ i. name_of kind (Number (member i) ∷ Number (version i) ∷ [])) ∙ ap (λ (x : Entry). x.0) (sym m.row)))

      by_lines : (xs ys : List (List Field)) → AllByRecursion (In l.member l.family) xs → AllByRecursion (In m.member m.family) ys → line_said kind e ≡ first_in xs → line_said kind f ≡ first_in ys → Less_than xs ys
      by_lines [] ys p q one two = tt
      by_lines (x ∷ xs) [] p q one two = all_true (λ z. AllByRecursion (λ y. order (key_in kind z) (key_in kind y) ≡ Less) []) (λ z. tt) (x ∷ xs)
      by_lines (x ∷ xs) (y ∷ ys) p q one two =
          let first : is_lt (order (key_in kind y) (key_in kind x)) ≡ false =
          ap (λ k. is_lt (order k (key_in kind x))) (sym (ap (key_said kind) two)) ∙ (ap (λ k. is_lt (order (line_key kind f) k)) (sym (ap (key_said kind) one)) ∙ low) in
          all_weaker (In l.member l.family) (λ z. AllByRecursion (λ y. order (key_in kind z) (key_in kind y) ≡ Less) (y ∷ ys))
          (λ c in_c. all_weaker (In m.member m.family) (λ d. order (key_in kind c) (key_in kind d) ≡ Less)
          (λ d in_d. keys_below l.member (version_of l.family) m.member (version_of m.family) other (key_in kind x) (key_in kind y) (key_in kind c) (key_in kind d) p.0.1 q.0.1 in_c.1 in_d.1 first) (y ∷ ys) q) (x ∷ xs) p

  pub rows_below : Less_than (lines_in kind e a) (lines_in kind f b)
  rows_below = by_form (is_listed kind) refl
    where
      by_form : (listed : Bool) (at : is_listed kind ≡ listed) → Less_than (lines_of kind listed at e a) (lines_of kind listed at f b)
      by_form true at = lists_below (row_listed kind e at a) (row_listed kind f at b)
      by_form false at = ((plain_below at (row_plain kind e at a) (row_plain kind f at b), tt), tt)
