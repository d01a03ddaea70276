-- What the tables say of claims is what the definitions say.
use Rattle.std.proofs.Common.{◌≡◌, ℕ, ◌+◌, ◌++◌, ◌&&◌, ◌||◌, Bool, true, false, List, [], ◌∷◌, Option, Some, None, Vec, BTreeMap, Global, codes, bytes_eq, length, if◌then◌else◌, refl, sym, ap, ◌∙◌, subst, append_assoc, arith}
use Rattle.std.proofs.lemmas.List.{append-nil}
use Rattle.std.specs.BTreeMap.{get_by}
use Rattle.std.specs.Option.{is_some, option_map}
use Rattle.std.specs.List.{list_any, slice_get}
use Rattle.ixp_rpsl.specs.Expansion.{is_among}
use Rattle.ixp_rpsl.specs.Lookups.{sought}
use Rattle.ixp_rpsl.specs.declared.objects.Item.{Item}
use Rattle.ixp_rpsl.specs.declared.objects.Item.TheVariants as item
use Rattle.ixp_rpsl.specs.declared.objects.SetRow.{SetRow}
use Rattle.ixp_rpsl_sources.specs.Counting as counting
use Rattle.ixp_rpsl_sources.specs.Said.{Said}
use Rattle.ixp_rpsl_sources.specs.Told.{KeepsBest, PutsClaimed, PutsRows, counts_at, places_at, admits_by, begins_at, best_of, claimant_kept, claimed_at, claimed_one, place_times, places_from, rows_kept, rows_named}
use Rattle.ixp_rpsl_sources.specs.declared.best.Best.{Best}
use Rattle.ixp_rpsl_sources.specs.declared.objects.Claim.{Claim}
use Rattle.ixp_rpsl_sources.specs.declared.objects.SetObject.{SetObject}

begins_same : (o : Option SetObject) (line : ℕ) → begins_at (option_map best_of o) line ≡ counting.begins_at o line
begins_same None line = refl
begins_same (Some o) line = refl

module _ (sources : List (List ℕ)) (sets : List SetObject) (index : BTreeMap (Vec ℕ Global) Best) (keeps : KeepsBest sources sets index) where
  counts_same : (name : List ℕ) (line : ℕ) → begins_at (get_by (sought name) index) line ≡ counting.counts sources sets name line
  counts_same name line = ap (λ b. begins_at b line) (keeps name) ∙ begins_same (counting.best sources sets name) line

  pub rows_same : (said : Said) (o : SetObject) (members : List Item) (names : List (List ℕ)) → said.sets ≡ sets → members ≡ counting.all_members sources said o
      → rows_kept index o.line members names ≡ counting.rows_under sources said o names
  rows_same said o members [] same all = refl
  rows_same said o members (n ∷ ns) same all =
      ap (λ b. if b then record { name = n; members = members } ∷ rows_kept index o.line members ns else rows_kept index o.line members ns)
      (counts_same n o.line ∙ ap (λ s. counting.counts sources s n o.line) (sym same))
      ∙ (ap (λ m. if counting.counts sources said.sets n o.line then record { name = n; members = m } ∷ rows_kept index o.line members ns else rows_kept index o.line members ns) all
      ∙ ap (λ rs. if counting.counts sources said.sets n o.line then record { name = n; members = counting.all_members sources said o } ∷ rs else rs) (rows_same said o members ns same all))

  claimant_same : (c : Claim) (member : Item) → claimant_kept index c member ≡ counting.claimant_counts sources sets c member
  claimant_same c (item.As a) = refl
  claimant_same c (item.Set name) = counts_same name c.line

  module _ (o : SetObject) (words : BTreeMap (Vec ℕ Global) (Unit {0})) (marks : (q : List ℕ) → is_some (get_by (sought q) words) ≡ is_among o.by_ref q) where
    any_same : (ms : List (List ℕ)) → list_any (λ m. is_some (get_by (sought m) words)) ms ≡ list_any (is_among o.by_ref) ms
    any_same [] = refl
    any_same (m ∷ ms) = ap (λ b. b || list_any (λ m. is_some (get_by (sought m) words)) ms) (marks m) ∙ ap (λ b. is_among o.by_ref m || b) (any_same ms)

    admits_same : (ms : List (List ℕ)) → admits_by words ms ≡ counting.admits o.by_ref ms
    admits_same ms = ap (λ b. b || list_any (λ m. is_some (get_by (sought m) words)) ms) (marks (codes "ANY")) ∙ ap (λ b. is_among o.by_ref (codes "ANY") || b) (any_same ms)

    abbrev ok : Claim → Bool
    ok c = counting.claimant_counts sources sets c c.member && counting.admits o.by_ref c.maintainers

    ok_same : (c : Claim) → (claimant_kept index c c.member && admits_by words c.maintainers) ≡ ok c
    ok_same c = ap (λ b. b && admits_by words c.maintainers) (claimant_same c c.member) ∙ ap (λ b. counting.claimant_counts sources sets c c.member && b) (admits_same c.maintainers)

    module _ (all : List Claim) where
      at_append : (xs ys : List ℕ) → claimed_at index words all (xs ++ ys) ≡ claimed_at index words all xs ++ claimed_at index words all ys
      at_append [] ys = refl
      at_append (x ∷ xs) ys =
          ap (λ r. claimed_one index words (slice_get all x) ++ r) (at_append xs ys)
          ∙ sym (append_assoc (claimed_one index words (slice_get all x)) (claimed_at index words all xs) (claimed_at index words all ys))

      times_same : (c : Claim) (k : ℕ) (ns : List (List ℕ)) (name : List ℕ) → slice_get all k ≡ Some c
          → claimed_at index words all (place_times k ns name) ≡ (if ok c then counting.named_times c.member ns name else [])
      times_same c k [] name here = by (ok c) where
        by : (b : Bool) → ◌≡◌ {A = List Item} [] (if b then [] else [])
        by true = refl
        by false = refl
      times_same c k (n ∷ ns) name here = by (bytes_eq n name) (ok c) (times_same c k ns name here) one where
        one : claimed_one index words (slice_get all k) ≡ (if ok c then c.member ∷ [] else [])
        one = ap (claimed_one index words) here ∙ ap (λ b. if b then c.member ∷ [] else []) (ok_same c)

        by : (b t : Bool) → claimed_at index words all (place_times k ns name) ≡ (if t then counting.named_times c.member ns name else [])
            → claimed_one index words (slice_get all k) ≡ (if t then c.member ∷ [] else [])
            → claimed_at index words all (if b then k ∷ place_times k ns name else place_times k ns name)
            ≡ (if t then (if b then c.member ∷ counting.named_times c.member ns name else counting.named_times c.member ns name) else [])
        by true true rest first = ap (λ f. f ++ claimed_at index words all (place_times k ns name)) first ∙ ap (λ r. c.member ∷ r) rest
        by true false rest first = ap (λ f. f ++ claimed_at index words all (place_times k ns name)) first ∙ rest
        by false true rest first = rest
        by false false rest first = rest

    at_place : (before : List Claim) (c : Claim) (cs : List Claim) → slice_get (before ++ c ∷ cs) (length before) ≡ Some c
    at_place [] c cs = refl
    at_place (b ∷ bs) c cs = at_place bs c cs

    longer : (xs : List Claim) (c : Claim) → length xs + 1 ≡ length (xs ++ c ∷ [])
    longer [] c = refl
    longer (x ∷ xs) c = let rest = longer xs c in omega arith

    one_more : (b : Bool) (now later : List Item) → (if b then now else []) ++ later ≡ (if b then now ++ later else later)
    one_more true now later = refl
    one_more false now later = refl

    from_same : (before cs : List Claim) (k : ℕ) → k ≡ length before → claimed_at index words (before ++ cs) (places_from k cs o.name) ≡ counting.claimed sources sets o cs
    from_same before [] k here = refl
    from_same before (c ∷ cs) k here =
        let rest : claimed_at index words (before ++ c ∷ cs) (places_from (k + 1) cs o.name) ≡ counting.claimed sources sets o cs =
        subst (λ all. claimed_at index words all (places_from (k + 1) cs o.name) ≡ counting.claimed sources sets o cs) (append_assoc before (c ∷ []) cs)
        (from_same (before ++ c ∷ []) cs (k + 1) (ap (λ n. n + 1) here ∙ longer before c)) in
        at_append (before ++ c ∷ cs) (place_times k c.sets o.name) (places_from (k + 1) cs o.name)
        ∙ (ap (λ r. r ++ claimed_at index words (before ++ c ∷ cs) (places_from (k + 1) cs o.name))
        (times_same (before ++ c ∷ cs) c k c.sets o.name (ap (slice_get (before ++ c ∷ cs)) here ∙ at_place before c cs))
        ∙ (ap (λ r. (if ok c then counting.named_times c.member c.sets o.name else []) ++ r) rest ∙ one_more (ok c) (counting.named_times c.member c.sets o.name) (counting.claimed sources sets o cs)))

    pub claimed_same : (claims : List Claim) → claimed_at index words claims (places_from 0 claims o.name) ≡ counting.claimed sources sets o claims
    claimed_same claims = from_same [] claims 0 refl

-- the last object's rows stand first
pub rows_append : (sources : List (List ℕ)) (said : Said) (front : List SetObject) (o : SetObject)
    → counting.rows sources said (front ++ o ∷ []) ≡ counting.rows_under sources said o (counting.names_of sources o) ++ counting.rows sources said front
rows_append sources said [] o = sym (append-nil (counting.rows_under sources said o (counting.names_of sources o)))
rows_append sources said (f ∷ fs) o =
    ap (λ r. r ++ counting.rows_under sources said f (counting.names_of sources f)) (rows_append sources said fs o)
    ∙ append_assoc (counting.rows_under sources said o (counting.names_of sources o)) (counting.rows sources said fs) (counting.rows_under sources said f (counting.names_of sources f))

-- an object that doesn't count has no rows
no_rows : (index : BTreeMap (Vec ℕ Global) Best) (line : ℕ) (members : List Item) (names : List (List ℕ)) → counts_at index line names ≡ false → rows_kept index line members names ≡ []
no_rows index line members [] e = refl
no_rows index line members (n ∷ ns) e = by (begins_at (get_by (sought n) index) line) e (no_rows index line members ns) where
  by : (b : Bool) → (b || counts_at index line ns) ≡ false → (counts_at index line ns ≡ false → rows_kept index line members ns ≡ [])
      → (if b then record { name = n; members = members } ∷ rows_kept index line members ns else rows_kept index line members ns) ≡ []
  by true h rest = absurd (let x : ⊥ = cc in x)
  by false h rest = rest h

-- one more object's rows are put
pub rows_put : (sources : List (List ℕ)) (sets : List SetObject) (index : BTreeMap (Vec ℕ Global) Best) (keeps : KeepsBest sources sets index)
    (places : BTreeMap (Vec ℕ Global) (List ℕ)) (claims : List Claim) (placed : (q : List ℕ) → places_at places q ≡ places_from 0 claims q)
    (said : Said) → said.sets ≡ sets → said.claims ≡ claims → (o : SetObject) (old new : List SetRow) (front : List SetObject) → PutsRows sources index places claims o old new
    → new ++ counting.rows sources said front ≡ old ++ counting.rows sources said (front ++ o ∷ [])
rows_put sources sets index keeps places claims placed said same kept o old new front (members, put, grown) =
    ap (λ n. n ++ counting.rows sources said front) (grown ∙ ap (λ rs. old ++ rs) (by (counts_at index o.line (counting.names_of sources o)) refl))
    ∙ (append_assoc old (counting.rows_under sources said o (counting.names_of sources o)) (counting.rows sources said front)
    ∙ ap (λ rs. old ++ rs) (sym (rows_append sources said front o)))
  where
    pair_same : (a b : List SetObject) (c d : List Claim) → a ≡ b → c ≡ d → ◌≡◌ {A = List SetObject × List Claim} (a, c) (b, d)
    pair_same a b c d e f = ap (λ (x : List SetObject). let p : List SetObject × List Claim = (x, c) in p) e ∙ ap (λ (x : List Claim). let p : List SetObject × List Claim = (b, x) in p) f

    all : PutsClaimed index o.by_ref claims (places_at places o.name) o.members members → members ≡ counting.all_members sources said o
    all (words, marks, more) =
        more ∙ (ap (λ ps. o.members ++ claimed_at index words claims ps) (placed o.name)
        ∙ (ap (λ is. o.members ++ is) (claimed_same sources sets index keeps o words marks claims)
        ∙ ap (λ (p : List SetObject × List Claim). o.members ++ counting.claimed sources p.0 o p.1) (pair_same sets said.sets claims said.claims (sym same) (sym kept))))

    by : (b : Bool) → counts_at index o.line (counting.names_of sources o) ≡ b → rows_kept index o.line members (counting.names_of sources o) ≡ counting.rows_under sources said o (counting.names_of sources o)
    by true e = rows_same sources sets index keeps said o members (counting.names_of sources o) same (all (put e))
    by false e =
        no_rows index o.line members (counting.names_of sources o) e
        ∙ (sym (no_rows index o.line (counting.all_members sources said o) (counting.names_of sources o) e)
        ∙ rows_same sources sets index keeps said o (counting.all_members sources said o) (counting.names_of sources o) same refl)

-- the rows of an object, name by name
pub puts_rows : (sources : List (List ℕ)) (index : BTreeMap (Vec ℕ Global) Best) (places : BTreeMap (Vec ℕ Global) (List ℕ)) (claims : List Claim) (o : SetObject) (old new : List SetRow)
    (members : List Item) (wanted : Bool) (own sourced : Option (List ℕ)) → wanted ≡ (begins_at (get_by (sought o.name) index) o.line || is_some sourced)
    → is_some sourced ≡ counts_at index o.line (counting.if_name (counting.sourced_name sources o))
    → ((ms : List Item) → rows_kept index o.line ms (counting.if_name (counting.sourced_name sources o)) ≡ rows_named ms sourced)
    → own ≡ (if begins_at (get_by (sought o.name) index) o.line then Some o.name else None)
    → (wanted ≡ true → PutsClaimed index o.by_ref claims (places_at places o.name) o.members members) → new ≡ (old ++ rows_named members own) ++ rows_named members sourced
    → PutsRows sources index places claims o old new
puts_rows sources index places claims o old new members wanted own sourced is there kept named put grown = (
  members,
  λ e. put (is ∙ (ap (λ b. begins_at (get_by (sought o.name) index) o.line || b) there ∙ e)),
  grown ∙ append_assoc old (rows_named members own) (rows_named members sourced) ∙ ap (λ rs. old ++ rs) (ap (λ n. rows_named members n ++ rows_named members sourced) named ∙ (ap (λ rs. rows_named members (if begins_at (get_by (sought o.name) index) o.line then Some o.name else None) ++ rs) (sym (kept members))
      ∙ by (begins_at (get_by (sought o.name) index) o.line) (rows_kept index o.line members (counting.if_name (counting.sourced_name sources o))))),
)
  where
    by : (b : Bool) (rs : List SetRow) → rows_named members (if b then Some o.name else None) ++ rs ≡ (if b then record { name = o.name; members = members } ∷ rs else rs)
    by true rs = refl
    by false rs = refl
