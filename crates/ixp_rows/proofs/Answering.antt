-- A dump's reader answers as its definition says.
use Rattle.std.proofs.Common.{◌≡◌, ◌≢◌, ℕ, zero, suc, ◌-◌, ◌<◌, ◌≤◌, ◌⊎◌, Bool, true, false, ◌&&◌, ◌||◌, ◌==◌, List, [], ◌∷◌, ◌++◌, length, take, append-nil, map, flat_map, Option, Some, None, Result, Ok, Err, inl, inr, refl, sym, ap, ◌∙◌, subst, arith, if◌then◌else◌}
use Rattle.std.specs.List.{AllByRecursion, list_any}
use Rattle.std.specs.Option.{is_some, option_map_or}
use Rattle.std.specs.declared.cmp.Ordering.TheVariants.{Equal, Greater}
use Rattle.std.proofs.lemmas.Bool.{and_parts, or_parts, eqb-true, eq-eqb}
use Rattle.ixp_num_tables.specs.Tables.{order}
use Rattle.ixp_registry.specs.declared.rows.Rows.{Rows}
use Rattle.ixp_registry.specs.declared.kind.Kind.{Kind}
use Rattle.ixp_registry.specs.declared.kind.Kind.TheVariants.{Sites, Members, Contacts, Keys, Switches, Ports, Vlans, Interfaces, Addresses, Routers, Prefixes, Origins, Rules, Bogons, BogonAs, Transit, Roas}
use Rattle.ixp_rows_lines.specs.declared.version.Version.{Version}
use Rattle.ixp_rows_lines.specs.declared.version.Version.TheVariants.{One, Two}
use Rattle.ixp_registry.specs.declared.router.Router.{Router}
use Rattle.ixp_rows_lines.specs.Fields.{Field}
use Rattle.ixp_rows_lines.specs.Lines.{Line, place_of, IsOfVersion, field_key, key_length, key_of, site_line, member_line, contact_line, key_line, switch_line, port_line, vlan_line, interface_line, address_line, router_line, prefix_line, origin_line, rule_line, bogon_line, bogon_as_line, transit_line, roa_line}
use Rattle.ixp_rows_lines.proofs.Spelling.{none_some}
use Rattle.ixp_rows.specs.declared.misread.Misread.{Misread}
use Rattle.ixp_rows.specs.declared.misread.Misread.TheVariants.{Bad, Order, Twice, NoMemory}
use Rattle.ixp_rows.specs.Reading.{◌>>=◌, Fails, begun, needed, unless, line_at, lists_at, rows_at, head_text, after_text, end_text, ended_with, ended, is_line_of, is_line, stray, total, dump_at, line_with_left, fault_of, owner_kinds, network_kinds, steering_kinds, public_kinds}
use Rattle.ixp_rows.specs.Answers.{row_lines, SiteFirst, Stands, IsDump, BeginsLine, IsLineOrEnd, DumpAnswer}
use Rattle.ixp_rows.specs.Groups.{fields_by, row_fields}
use Rattle.ixp_rows.proofs.DumpsSpelt.{list_kinds, dump_kinds, lists_is, end_spelt}
use Rattle.ixp_rows.proofs.LinesAgain.{place_most, after_again, after_found, line_again, read_line}
use Rattle.ixp_rows.proofs.Spelt.{line_found}
use Rattle.ixp_rows.proofs.Standing.{line_of, last_line, heads_greater, number_behind_end, bad_here, clash_here, stands_more, Faulty, Past, Consecutive, section_lines, SectionsStand, sections_stand}

-- a kind of which a line stands, if one does
any_some : (p : Kind → Bool) (kinds : List Kind) → list_any p kinds ≡ true → (k : Kind) × (p k ≡ true)
any_some p [] e = absurd cc
any_some p (k ∷ kinds) e = by_test (p k) refl e (any_some p kinds)
  where
    by_test : (b : Bool) → p k ≡ b → (b || list_any p kinds) ≡ true → (list_any p kinds ≡ true → (k : Kind) × (p k ≡ true)) → (k : Kind) × (p k ≡ true)
    by_test true here e again = (k, here)
    by_test false here e again = again e

any_none : (p : Kind → Bool) (kinds : List Kind) → list_any p kinds ≡ false → AllByRecursion (λ k. p k ≡ false) kinds
any_none p [] e = tt
any_none p (k ∷ kinds) e = let parts = or_parts (p k) (list_any p kinds) e in (parts.0, any_none p kinds parts.1)

five_some : (a b c d e : Bool) → (a || b || c || d || e) ≡ true → (a ≡ true) ⊎ (b ≡ true) ⊎ (c ≡ true) ⊎ (d ≡ true) ⊎ (e ≡ true)
five_some true b c d e is = inl refl
five_some false true c d e is = inr (inl refl)
five_some false false true d e is = inr (inr (inl refl))
five_some false false false true e is = inr (inr (inr (inl refl)))
five_some false false false false e is = inr (inr (inr (inr is)))

five_none : (a b c d e : Bool) → (a || b || c || d || e) ≡ false → (a ≡ false) × (b ≡ false) × (c ≡ false) × (d ≡ false) × (e ≡ false)
five_none true b c d e is = absurd cc
five_none false true c d e is = absurd cc
five_none false false true d e is = absurd cc
five_none false false false true e is = absurd cc
five_none false false false false e is = (refl, refl, refl, refl, is)

module _ (version : Version) (t : List ℕ) where
  abbrev here : Kind → Bool
  here = is_line_of version t

  line_here : is_line version t ≡ true → (k : Kind) × (here k ≡ true)
  unfolding is_line
  line_here e = by_group (five_some (here Sites) (list_any here owner_kinds) (list_any here network_kinds) (list_any here steering_kinds) (list_any here public_kinds) e)
    where
      by_group : (here Sites ≡ true) ⊎ (list_any here owner_kinds ≡ true) ⊎ (list_any here network_kinds ≡ true) ⊎ (list_any here steering_kinds ≡ true) ⊎ (list_any here public_kinds ≡ true)
          → (k : Kind) × (here k ≡ true)
      by_group (inl e) = (Sites, e)
      by_group (inr (inl e)) = any_some here owner_kinds e
      by_group (inr (inr (inl e))) = any_some here network_kinds e
      by_group (inr (inr (inr (inl e)))) = any_some here steering_kinds e
      by_group (inr (inr (inr (inr e)))) = any_some here public_kinds e

  none_here : is_line version t ≡ false → (k : Kind) → here k ≡ false
  unfolding is_line
  none_here e k =
      let n = five_none (here Sites) (list_any here owner_kinds) (list_any here network_kinds) (list_any here steering_kinds) (list_any here public_kinds) e in
      by_kind k n.0 (any_none here owner_kinds n.1) (any_none here network_kinds n.2) (any_none here steering_kinds n.3) (any_none here public_kinds n.4)
    where
      by_kind : (k : Kind) → here Sites ≡ false → AllByRecursion (λ k. here k ≡ false) owner_kinds → AllByRecursion (λ k. here k ≡ false) network_kinds
          → AllByRecursion (λ k. here k ≡ false) steering_kinds → AllByRecursion (λ k. here k ≡ false) public_kinds → here k ≡ false
      by_kind Sites site o n s p = site
      by_kind Members site o n s p = o.0
      by_kind Contacts site o n s p = o.1.0
      by_kind Keys site o n s p = o.1.1.0
      by_kind Switches site o n s p = n.0
      by_kind Ports site o n s p = n.1.0
      by_kind Vlans site o n s p = n.1.1.0
      by_kind Interfaces site o n s p = n.1.1.1.0
      by_kind Addresses site o n s p = n.1.1.1.1.0
      by_kind Routers site o n s p = s.0
      by_kind Prefixes site o n s p = s.1.0
      by_kind Origins site o n s p = s.1.1.0
      by_kind Rules site o n s p = s.1.1.1.0
      by_kind Bogons site o n s p = p.0
      by_kind BogonAs site o n s p = p.1.0
      by_kind Transit site o n s p = p.1.1.0
      by_kind Roas site o n s p = p.1.1.1.0

  -- a line of the kind is read where one is told to stand
  read_here : (k : Kind) → here k ≡ true → (fs : List Field) × (more : List ℕ) × (line_at version k t ≡ Some (Some (fs, more)))
  read_here k e = by_line (line_at version k t) refl e
    where
      by_line : (o : Option (Option (List Field × List ℕ))) → line_at version k t ≡ o → option_map_or is_some o false ≡ true → (fs : List Field) × (more : List ℕ) × (line_at version k t ≡ Some (Some (fs, more)))
      by_line None at e = absurd cc
      by_line (Some None) at e = absurd cc
      by_line (Some (Some x)) at e = (x.0, x.1, at)

-- where no kind's line stands, none begins
none_begins : (version : Version) (t : List ℕ) (line : Line) → ((k : Kind) → is_line_of version t k ≡ false) → ¬ (BeginsLine version line t)
none_begins version t line none begins =
    let at : line_at version line.kind t ≡ Some (Some (line.fields, begins.more)) = ap (line_at version line.kind) begins.text ∙ line_again version line begins.is_line begins.more in
    let told : true ≡ false = sym (ap (λ o. option_map_or is_some o false) at) ∙ none line.kind in
    absurd cc

-- the key of the site's line
site_key : (l : Line) → l.kind ≡ Sites → key_of l ≡ 1 ∷ []
site_key l e = ap (λ k. place_of k ∷ flat_map field_key (take (key_length k) l.fields)) e

-- a line alone is the first
alone_site : (lines : List Line) (l : Line) → length lines ≡ 1 → last_line lines ≡ Some l → SiteFirst lines → l.kind ≡ Sites
alone_site [] l one last site = absurd (omega (arith, one))
alone_site (m ∷ []) l one last site = ap (λ l. l.kind) (sym (line_is m l last)) ∙ site
  where
    line_is : (m l : Line) → ◌≡◌ {A = Option Line} (Some m) (Some l) → m ≡ l
    line_is m l e = cc
alone_site (m ∷ n ∷ lines) l one last site = absurd (omega (arith, one))

-- the lines of rows by their fields
by_row : {R : Type 0} (kind : Kind) (line : R → Line) → ((row : R) → line_of kind (line row).fields ≡ line row) → (rows : List R) → map (line_of kind) (fields_by line rows) ≡ map line rows
by_row kind line is [] = refl
by_row kind line is (row ∷ rows) = ap (λ l. l ∷ map (line_of kind) (fields_by line rows)) (is row) ∙ ap (λ ls. line row ∷ ls) (by_row kind line is rows)

router_again : (version : Version) (row : Router) → line_of Routers (router_line version row).fields ≡ router_line version row
router_again One row = refl
router_again Two row = refl

and_then : (x y a b : List Line) → x ≡ a → y ≡ b → x ++ y ≡ a ++ b
and_then x y a b e f = ap (λ z. z ++ y) e ∙ ap (λ z. a ++ z) f

pub row_lines_are : (version : Version) (w : Rows) → section_lines dump_kinds (row_fields version w) ≡ row_lines version w
unfolding row_lines
row_lines_are version w =
    ap (λ ls. site_line w.site ∷ ls)
    (and_then _ _ _ _ (by_row Members member_line (λ row. refl) w.members)
    (and_then _ _ _ _ (by_row Contacts contact_line (λ row. refl) w.contacts)
    (and_then _ _ _ _ (by_row Keys key_line (λ row. refl) w.keys)
    (and_then _ _ _ _ (by_row Switches switch_line (λ row. refl) w.switches)
    (and_then _ _ _ _ (by_row Ports port_line (λ row. refl) w.ports)
    (and_then _ _ _ _ (by_row Vlans vlan_line (λ row. refl) w.vlans)
    (and_then _ _ _ _ (by_row Interfaces interface_line (λ row. refl) w.interfaces)
    (and_then _ _ _ _ (by_row Addresses address_line (λ row. refl) w.addresses)
    (and_then _ _ _ _ (by_row Routers (router_line version) (router_again version) w.routers)
    (and_then _ _ _ _ (by_row Prefixes prefix_line (λ row. refl) w.prefixes)
    (and_then _ _ _ _ (by_row Origins origin_line (λ row. refl) w.origins)
    (and_then _ _ _ _ (by_row Rules rule_line (λ row. refl) w.rules)
    (and_then _ _ _ _ (by_row Bogons bogon_line (λ row. refl) w.public.bogons)
    (and_then _ _ _ _ (by_row BogonAs bogon_as_line (λ row. refl) w.public.bogon_as)
    (and_then _ _ _ _ (by_row Transit transit_line (λ row. refl) w.public.transit)
    (append-nil (map (line_of Roas) (fields_by roa_line w.public.roas)) ∙ by_row Roas roa_line (λ row. refl) w.public.roas))))))))))))))))

module _ (version : Version) (t : List ℕ) where
  abbrev Faults : Misread → Type 0
  Faults = Faulty version t

  no_follower : (lines : List Line) (rest : List ℕ) → is_line version rest ≡ false → after_text (end_text (length lines)) rest ≡ None → 0 < length lines → ¬ (IsLineOrEnd version lines rest)
  no_follower [] rest no_line no_end some may = absurd (omega (arith, some))
  no_follower (l ∷ ls) rest no_line no_end some (inl (line, begins)) = none_begins version rest line (none_here version rest no_line) begins
  no_follower (l ∷ ls) rest no_line no_end some (inr (more, text)) =
      none_some more (sym no_end ∙ (ap (after_text (end_text (length (l ∷ ls)))) text ∙ after_again (end_text (length (l ∷ ls))) more))

  module _ (lines : List Line) (rest : List ℕ) (s : Stands version t lines rest) (past : Past version t lines rest 17) where
    some_lines : 0 < length lines
    some_lines = by_lines lines past.is_last
      where
        by_lines : (lines : List Line) → last_line lines ≡ Some past.last → 0 < length lines
        by_lines [] e = absurd (none_some past.last e)
        by_lines (l ∷ ls) e = omega arith

    -- a line of a kind before that of the last line
    out_of_order : (k : Kind) (fs : List Field) (more : List ℕ) → line_at version k rest ≡ Some (Some (fs, more)) → place_of k < place_of past.last.kind → Faults (Order (length rest))
    out_of_order k fs more at low =
        clash_here version t Greater lines k fs rest more past.last s at past.is_last
        (heads_greater (place_of past.last.kind) (place_of k) (flat_map field_key (take (key_length past.last.kind) past.last.fields)) (flat_map field_key (take (key_length k) fs)) low)

    -- a second line of the site right behind the first
    site_twice : (fs : List Field) (more : List ℕ) → length lines ≡ 1 → line_at version Sites rest ≡ Some (Some (fs, more)) → Faults (Twice (length rest))
    site_twice fs more one at =
        clash_here version t Equal lines Sites fs rest more past.last s at past.is_last
        (ap (λ k. order k (1 ∷ [])) (site_key past.last (alone_site lines past.last one past.is_last s.site)))

    strayed : (k : Kind) (fs : List Field) (more : List ℕ) → line_at version k rest ≡ Some (Some (fs, more)) → (b : Bool) → (length lines == 1 && is_line_of version rest Sites) ≡ b
        → Faults (if b then Twice (length rest) else Order (length rest))
    strayed k fs more at true e =
        let parts = and_parts (length lines == 1) (is_line_of version rest Sites) e in
        let site = read_here version rest Sites parts.1 in
        site_twice site.0 site.1 (eqb-true (length lines) 1 parts.0) site.2
    strayed k fs more at false e = by_place (leb_cases (place_of k))
      where
        leb_cases : (n : ℕ) → (n ≤ 1) ⊎ (1 < n)
        leb_cases zero = inl (omega arith)
        leb_cases (suc zero) = inl (omega arith)
        leb_cases (suc (suc n)) = inr (omega arith)

        by_passed : (line_at version k rest ≡ Some None) ⊎ (place_of k < place_of past.last.kind) → Faults (Order (length rest))
        by_passed (inl none) = absurd (let h : ◌≡◌ {A = Option (Option (List Field × List ℕ))} (Some None) (Some (Some (fs, more))) = sym none ∙ at in cc)
        by_passed (inr low) = out_of_order k fs more at low

        site_of : (k : Kind) → place_of k ≤ 1 → k ≡ Sites
        site_of Sites low = refl
        site_of k low = absurd (omega (arith, low))

        by_alone : place_of k ≤ 1 → (length lines ≡ 1) ⊎ (1 < place_of past.last.kind) → Faults (Order (length rest))
        by_alone low (inl one) =
            let site : line_at version Sites rest ≡ Some (Some (fs, more)) = ap (λ k. line_at version k rest) (sym (site_of k low)) ∙ at in
            let both : true ≡ false =
            sym (ap (λ b. b && is_line_of version rest Sites) (eq-eqb (length lines) 1 one) ∙ ap (λ o. option_map_or is_some o false) site) ∙ e in
            absurd cc
        by_alone low (inr high) = out_of_order k fs more at (omega (arith, low, high))

        by_place : (place_of k ≤ 1) ⊎ (1 < place_of k) → Faults (Order (length rest))
        by_place (inl low) = by_alone low past.alone
        by_place (inr high) = by_passed (past.passed k high (place_most k))

    stray_stands : after_text (end_text (length lines)) rest ≡ None → Faults (stray version (length lines) rest)
    stray_stands no_end = by_line (is_line version rest) refl
      where
        by_line : (b : Bool) → is_line version rest ≡ b
            → Faults (if b then (if length lines == 1 && is_line_of version rest Sites then Twice (length rest) else Order (length rest)) else Bad (length rest))
        by_line true e =
            let kind = line_here version rest e in
            let line = read_here version rest kind.0 kind.1 in
            strayed kind.0 line.0 line.1 line.2 (length lines == 1 && is_line_of version rest Sites) refl
        by_line false e = bad_here version t lines rest s (no_follower lines rest e no_end some_lines)

    end_stands : (o : Option Misread) → ended version (length lines) rest ≡ o → (f : Misread) → o ≡ Some f → Faults f
    unfolding ended
    end_stands o is f e = by_end (after_text (end_text (length lines)) rest) refl (is ∙ e)
      where
        misread_is : (a b : Misread) → ◌≡◌ {A = Option Misread} (Some a) (Some b) → a ≡ b
        misread_is a b e = cc

        by_end : (a : Option (List ℕ)) → after_text (end_text (length lines)) rest ≡ a → ended_with version (length lines) rest a ≡ Some f → Faults f
        by_end None at e = subst Faults (misread_is (stray version (length lines) rest) f e) (stray_stands at)
        by_end (Some []) at e = absurd (none_some f e)
        by_end (Some (c ∷ cs)) at e =
            let stands : Stands version t lines (end_text (length lines) ++ c ∷ cs) = subst (Stands version t lines) (after_found (end_text (length lines)) rest (c ∷ cs) at) s in
            subst Faults (misread_is (Bad (suc (length cs))) f e)
            (inr (inr (lines, c, cs, stands, some_lines, number_behind_end version t lines (length lines) (c ∷ cs) stands)))

  -- all rows
  abbrev AllStand : Result (List (List (List Field)) × List ℕ) Misread → Type 0
  AllStand (Ok x) =
      Stands version t (section_lines dump_kinds x.0) x.1 × Past version t (section_lines dump_kinds x.0) x.1 17
      × (length (section_lines dump_kinds x.0) ≡ total x.0) × (length x.0 ≡ 17)
  AllStand (Err misread) = Faults misread

  abbrev with_site : List Field → Result (List (List (List Field)) × List ℕ) Misread → Result (List (List (List Field)) × List ℕ) Misread
  with_site fs r = r >>= λ x. Ok ((fs ∷ []) ∷ x.0, x.1)

  site_stands : (fs : List Field) (r : Result (List (List (List Field)) × List ℕ) Misread) → SectionsStand version t 1 list_kinds (line_of Sites fs ∷ []) r → AllStand (with_site fs r)
  site_stands fs (Err misread) faulty = faulty
  site_stands fs (Ok x) (stands, past, count, each_kind) = (stands, past, omega (arith, count), ap suc each_kind)

  rows_at_stand : AllStand (rows_at version t)
  unfolding rows_at
  rows_at_stand = by_head (after_text (head_text version) t) refl
    where
      first_line : line_with_left t (length t) ≡ 1
      first_line = let none : length t - length t ≡ 0 = omega arith in rw none refl

      by_site : (body : List ℕ) → t ≡ head_text version ++ body → (o : Option (Option (List Field × List ℕ))) → line_at version Sites body ≡ o
          → AllStand (needed (length body) o >>= λ s. with_site s.0 (lists_at version s.1))
      by_site body head o at = by_line o at
        where
          stands : Stands version t [] body
          stands = record { parts = head; each = tt; ascends = tt; site = tt }

          no_site : (o : Option (Option (List Field × List ℕ))) → line_at version Sites body ≡ o → ((x : List Field × List ℕ) → o ≢ Some (Some x)) → ¬ (IsLineOrEnd version [] body)
          no_site o at never (line, kind, begins) =
              never (line.fields, begins.more)
              (sym at ∙ (ap (λ k. line_at version k body) (sym kind) ∙ (ap (line_at version line.kind) begins.text ∙ line_again version line begins.is_line begins.more)))

          by_line : (o : Option (Option (List Field × List ℕ))) → line_at version Sites body ≡ o → AllStand (needed (length body) o >>= λ s. with_site s.0 (lists_at version s.1))
          by_line None at = bad_here version t [] body stands (no_site None at (λ x e. none_some (Some x) e))
          by_line (Some None) at = bad_here version t [] body stands (no_site (Some None) at (λ x e. absurd cc))
          by_line (Some (Some (fs, more))) at =
              let l = line_of Sites fs in
              let is = read_line version Sites body fs more at in
              let one = stands_more version t [] l body more stands (line_found version Sites body fs more at) is refl tt in
              let past : Past version t (l ∷ []) more 1 = record { last = l; is_last = refl; most = omega arith; alone = inl refl; passed = (λ k some low. absurd (omega (arith, some, low))) } in
              site_stands fs (lists_at version more)
              (subst (SectionsStand version t 1 list_kinds (l ∷ [])) (sym (lists_is version more))
              (sections_stand version t list_kinds 1 (l ∷ []) more consecutive one past))
            where
              consecutive : Consecutive version t 1 list_kinds
              consecutive = (refl, (refl, (refl, (refl, (refl, (refl, (refl, (refl, (refl, (refl, (refl, (refl, (refl, (refl, (refl, (refl, tt))))))))))))))))

      by_head : (o : Option (List ℕ)) → after_text (head_text version) t ≡ o
          → AllStand (begun (length t) o >>= λ body. needed (length body) (line_at version Sites body) >>= λ s. with_site s.0 (lists_at version s.1))
      by_head None at = inl (first_line, (λ rest e. none_some rest (sym at ∙ (ap (after_text (head_text version)) e ∙ after_again (head_text version) rest))))
      by_head (Some body) at = by_site body (after_found (head_text version) t body at) (line_at version Sites body) refl

  abbrev pub DumpStands : Result (List (List (List Field))) Misread → Type 0
  DumpStands (Ok xss) = IsDump version (section_lines dump_kinds xss) t × (length xss ≡ 17)
  DumpStands (Err misread) = Faults misread

  pub dump_stands : DumpStands (dump_at version t)
  dump_stands = by_rows (rows_at version t) rows_at_stand
    where
      by_rows : (r : Result (List (List (List Field)) × List ℕ) Misread) → AllStand r → DumpStands (r >>= λ x. unless (ended version (total x.0) x.1) x.0)
      by_rows (Err misread) faulty = faulty
      by_rows (Ok x) (s, past, count, each_kind) = by_end (ended version (total x.0) x.1) refl
        where
          by_end : (o : Option Misread) → ended version (total x.0) x.1 ≡ o → DumpStands (unless o x.0)
          by_end None e =
              (subst (Stands version t (section_lines dump_kinds x.0)) (end_spelt version (total x.0) x.1 e ∙ ap end_text (sym count)) s, each_kind)
          by_end (Some f) e = end_stands (section_lines dump_kinds x.0) x.1 s past (Some f) (subst (λ n. ended version n x.1 ≡ Some f) (sym count) e) f refl

  -- a fault of the reading function is one of the text
  pub fault_answered : (misread : Misread) → Fails misread (dump_at version t) → DumpAnswer version t (Err (fault_of t misread))
  fault_answered NoMemory e = tt
  fault_answered (Bad left) e = subst DumpStands e dump_stands
  fault_answered (Order left) e = subst DumpStands e dump_stands
  fault_answered (Twice left) e = subst DumpStands e dump_stands

  -- and the rows that it gives are those whose lines the text has
  pub rows_answered : (w : Rows) → dump_at version t ≡ Ok (row_fields version w) → AllByRecursion (IsOfVersion version) w.routers → DumpAnswer version t (Ok w)
  rows_answered w e of_version = (subst (λ lines. IsDump version lines t) (row_lines_are version w) (subst DumpStands e dump_stands).0, of_version)
