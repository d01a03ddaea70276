-- What is read of a dump is its text.
use Rattle.std.proofs.Common.{◌≡◌, ℕ, suc, Bool, true, false, List, [], ◌∷◌, ◌++◌, length, take, drop, append_assoc, append-nil, Option, Some, None, Result, Ok, Err, refl, sym, ap, ◌∙◌, if◌then◌else◌}
use Rattle.ixp_registry.specs.declared.router.Router.{Router}
use Rattle.ixp_registry.specs.declared.rows.Rows.{Rows}
use Rattle.ixp_num_tables.specs.Tables.{same}
use Rattle.ixp_registry.specs.declared.kind.Kind.{Kind}
use Rattle.ixp_registry.specs.declared.kind.Kind.TheVariants.{Sites, Members, Contacts, Keys, Switches, Ports, Vlans, Interfaces, Addresses, Routers, Prefixes, Origins, Rules, Bogons, BogonAs, Transit, Roas}
use Rattle.ixp_rows_lines.specs.declared.version.Version.{Version}
use Rattle.ixp_rows_lines.specs.declared.version.Version.TheVariants.{One, Two}
use Rattle.ixp_rows_lines.specs.Fields.{Field}
use Rattle.ixp_rows_lines.specs.Lines.{Line, text_of, line_text, site_line, member_line, contact_line, key_line, switch_line, port_line, vlan_line, interface_line, address_line, router_line, prefix_line, origin_line, rule_line, bogon_line, bogon_as_line, transit_line, roa_line}
use Rattle.ixp_rows.specs.declared.misread.Misread.{Misread}
use Rattle.ixp_rows.specs.declared.misread.Misread.TheVariants.{Bad}
use Rattle.ixp_rows.specs.Reading.{◌>>=◌, begun, needed, unless, line_at, section, sections_at, lists_at, rows_at, head_text, after_text, end_text, ended_with, ended, stray, total, dump_at, owner_kinds, network_kinds, steering_kinds, public_kinds}
use Rattle.ixp_rows.specs.Groups.{fields_by, row_fields}
use Rattle.ixp_rows.specs.Texts.{lines_by, lines_text, dump_text}
use Rattle.ixp_rows_lines.proofs.Spelling.{some_is, none_some}
use Rattle.ixp_rows.proofs.Counts.{total_rows}
use Rattle.ixp_rows.proofs.Spelt.{ok_is, err_ok, front_found, line_found, texts, rows_found}

Sectioned : Type 0
Sectioned = List (List (List Field)) × List ℕ

-- the texts of rows of some kinds, kind by kind
abbrev kinds_text : List Kind → List (List (List Field)) → List ℕ
kinds_text [] xss = []
kinds_text (kind ∷ kinds) [] = []
kinds_text (kind ∷ kinds) (rows ∷ xss) = texts kind rows ++ kinds_text kinds xss

abbrev section_added : List (List Field) → Result (List (List (List Field)) × List ℕ) Misread → Result (List (List (List Field)) × List ℕ) Misread
section_added rows r = r >>= λ x. Ok (rows ∷ x.0, x.1)

sections_found : (version : Version) (kinds : List Kind) (t : List ℕ) (xss : List (List (List Field))) (rest : List ℕ) → sections_at version kinds t ≡ Ok (xss, rest) → t ≡ kinds_text kinds xss ++ rest
sections_found version [] t xss rest e = ap (λ y. y.1) (ok_is ([], t) (xss, rest) e)
sections_found version (kind ∷ kinds) t xss rest e = by_section (sections_found version kinds) (section version kind t) refl e
  where
    by_rest : ((t : List ℕ) (xss : List (List (List Field))) (rest : List ℕ) → sections_at version kinds t ≡ Ok (xss, rest) → t ≡ kinds_text kinds xss ++ rest)
        → (rows : List (List Field)) (more : List ℕ) → t ≡ texts kind rows ++ more → (r : Result (List (List (List Field)) × List ℕ) Misread) → sections_at version kinds more ≡ r
        → section_added rows r ≡ Ok (xss, rest) → t ≡ kinds_text (kind ∷ kinds) xss ++ rest
    by_rest again rows more here (Err f) is e = absurd (err_ok f (xss, rest) e)
    by_rest again rows more here (Ok x) is e =
        (here ∙ (ap (λ m. texts kind rows ++ m) (again more x.0 x.1 is) ∙ sym (append_assoc (texts kind rows) (kinds_text kinds x.0) x.1)))
        ∙ ap (λ y. kinds_text (kind ∷ kinds) y.0 ++ y.1) (ok_is (rows ∷ x.0, x.1) (xss, rest) e)

    by_section : ((t : List ℕ) (xss : List (List (List Field))) (rest : List ℕ) → sections_at version kinds t ≡ Ok (xss, rest) → t ≡ kinds_text kinds xss ++ rest)
        → (r : Result (List (List Field) × List ℕ) Misread) → section version kind t ≡ r → (r >>= λ s. section_added s.0 (sections_at version kinds s.1)) ≡ Ok (xss, rest) → t ≡ kinds_text (kind ∷ kinds) xss ++ rest
    by_section again (Err f) at e = absurd (err_ok f (xss, rest) e)
    by_section again (Ok s) at e = by_rest again s.0 s.1 (rows_found (suc (length t)) version kind None t s.0 s.1 at) (sections_at version kinds s.1) refl e

-- kinds one after the other are read as one list of kinds
chained : (version : Version) (ks js : List Kind) (t : List ℕ)
    → sections_at version (ks ++ js) t ≡ (sections_at version ks t >>= λ a. sections_at version js a.1 >>= λ b. Ok (a.0 ++ b.0, b.1))
chained version [] js t = by_cases (sections_at version js t)
  where
    by_cases : (r : Result (List (List (List Field)) × List ℕ) Misread) → r ≡ (r >>= λ b. Ok (b.0, b.1))
    by_cases (Ok b) = refl
    by_cases (Err f) = refl
chained version (k ∷ ks) js t = by_section (section version k t) (λ more. chained version ks js more)
  where
    by_rest : (rows : List (List Field)) (a : Result (List (List (List Field)) × List ℕ) Misread)
        → section_added rows (a >>= λ a. sections_at version js a.1 >>= λ b. Ok (a.0 ++ b.0, b.1)) ≡ (section_added rows a >>= λ a. sections_at version js a.1 >>= λ b. Ok (a.0 ++ b.0, b.1))
    by_rest rows (Err f) = refl
    by_rest rows (Ok a) = by_last (sections_at version js a.1)
      where
        by_last : (b : Result (List (List (List Field)) × List ℕ) Misread) → section_added rows (b >>= λ b. Ok (a.0 ++ b.0, b.1)) ≡ (b >>= λ b. Ok (rows ∷ (a.0 ++ b.0), b.1))
        by_last (Err f) = refl
        by_last (Ok b) = refl

    by_section : (s : Result (List (List Field) × List ℕ) Misread)
        → ((more : List ℕ) → sections_at version (ks ++ js) more ≡ (sections_at version ks more >>= λ a. sections_at version js a.1 >>= λ b. Ok (a.0 ++ b.0, b.1)))
        → (s >>= λ s. section_added s.0 (sections_at version (ks ++ js) s.1)) ≡ ((s >>= λ s. section_added s.0 (sections_at version ks s.1)) >>= λ a. sections_at version js a.1 >>= λ b. Ok (a.0 ++ b.0, b.1))
    by_section (Err f) again = refl
    by_section (Ok s) again = ap (section_added s.0) (again s.1) ∙ by_rest s.0 (sections_at version ks s.1)

abbrev appended : List (List (List Field)) → Result (List (List (List Field)) × List ℕ) Misread → Result (List (List (List Field)) × List ℕ) Misread
appended xs r = r >>= λ b. Ok (xs ++ b.0, b.1)

abbrev pub list_kinds : List Kind
list_kinds = owner_kinds ++ (network_kinds ++ (steering_kinds ++ public_kinds))

pub lists_is : (version : Version) (t : List ℕ) → lists_at version t ≡ sections_at version list_kinds t
lists_is version t = by_owners (sections_at version owner_kinds t) ∙ sym (chained version owner_kinds (network_kinds ++ (steering_kinds ++ public_kinds)) t)
  where
    by_public : (o n s : List (List (List Field))) (p : Result (List (List (List Field)) × List ℕ) Misread) → (p >>= λ p. Ok (o ++ (n ++ (s ++ p.0)), p.1)) ≡ appended o (appended n (appended s p))
    by_public o n s (Err f) = refl
    by_public o n s (Ok p) = refl

    by_steering : (o n : List (List (List Field))) (s : Result (List (List (List Field)) × List ℕ) Misread)
        → (s >>= λ s. sections_at version public_kinds s.1 >>= λ p. Ok (o ++ (n ++ (s.0 ++ p.0)), p.1)) ≡ appended o (appended n (s >>= λ s. appended s.0 (sections_at version public_kinds s.1)))
    by_steering o n (Err f) = refl
    by_steering o n (Ok s) = by_public o n s.0 (sections_at version public_kinds s.1)

    by_network : (o : List (List (List Field))) (n : Result (List (List (List Field)) × List ℕ) Misread)
        → (n >>= λ n. sections_at version steering_kinds n.1 >>= λ s. sections_at version public_kinds s.1 >>= λ p. Ok (o ++ (n.0 ++ (s.0 ++ p.0)), p.1))
        ≡ appended o (n >>= λ n. appended n.0 (sections_at version (steering_kinds ++ public_kinds) n.1))
    by_network o (Err f) = refl
    by_network o (Ok n) =
        by_steering o n.0 (sections_at version steering_kinds n.1) ∙ ap (λ r. appended o (appended n.0 r)) (sym (chained version steering_kinds public_kinds n.1))

    by_owners : (o : Result (List (List (List Field)) × List ℕ) Misread)
        → (o >>= λ o. sections_at version network_kinds o.1 >>= λ n. sections_at version steering_kinds n.1 >>= λ s. sections_at version public_kinds s.1 >>= λ p. Ok (o.0 ++ (n.0 ++ (s.0 ++ p.0)), p.1))
        ≡ (o >>= λ o. appended o.0 (sections_at version (network_kinds ++ (steering_kinds ++ public_kinds)) o.1))
    by_owners (Err f) = refl
    by_owners (Ok o) =
        by_network o.0 (sections_at version network_kinds o.1) ∙ ap (appended o.0) (sym (chained version network_kinds (steering_kinds ++ public_kinds) o.1))

abbrev pub dump_kinds : List Kind
dump_kinds = Sites ∷ list_kinds

abbrev with_site : List Field → Result (List (List (List Field)) × List ℕ) Misread → Result (List (List (List Field)) × List ℕ) Misread
with_site fs r = r >>= λ x. Ok ((fs ∷ []) ∷ x.0, x.1)

-- all rows behind the head
rows_spelt : (version : Version) (t : List ℕ) (xss : List (List (List Field))) (rest : List ℕ) → rows_at version t ≡ Ok (xss, rest) → t ≡ head_text version ++ (kinds_text dump_kinds xss ++ rest)
unfolding rows_at
rows_spelt version t xss rest e = by_head (after_text (head_text version) t) refl e
  where
    by_lists : (body more : List ℕ) (fs : List Field) → t ≡ head_text version ++ body → body ≡ text_of Sites fs ++ more → (r : Result (List (List (List Field)) × List ℕ) Misread) → lists_at version more ≡ r
        → with_site fs r ≡ Ok (xss, rest) → t ≡ head_text version ++ (kinds_text dump_kinds xss ++ rest)
    by_lists body more fs head site (Err f) is e = absurd (err_ok f (xss, rest) e)
    by_lists body more fs head site (Ok x) is e =
        let lists : more ≡ kinds_text list_kinds x.0 ++ x.1 = sections_found version list_kinds more x.0 x.1 (sym (lists_is version more) ∙ is) in
        let one : texts Sites (fs ∷ []) ≡ text_of Sites fs = append-nil (text_of Sites fs) in
        let whole : body ≡ kinds_text dump_kinds ((fs ∷ []) ∷ x.0) ++ x.1 =
        site ∙ (ap (λ m. text_of Sites fs ++ m) lists ∙ (ap (λ y. y ++ (kinds_text list_kinds x.0 ++ x.1)) (sym one) ∙ sym (append_assoc (texts Sites (fs ∷ [])) (kinds_text list_kinds x.0) x.1))) in
        head ∙ ap (λ b. head_text version ++ b) (whole ∙ ap (λ y. kinds_text dump_kinds y.0 ++ y.1) (ok_is ((fs ∷ []) ∷ x.0, x.1) (xss, rest) e))

    by_site : (body : List ℕ) → t ≡ head_text version ++ body → (o : Option (Option (List Field × List ℕ))) → line_at version Sites body ≡ o
        → (needed (length body) o >>= λ s. with_site s.0 (lists_at version s.1)) ≡ Ok (xss, rest) → t ≡ head_text version ++ (kinds_text dump_kinds xss ++ rest)
    by_site body head None at e = absurd (err_ok (Bad (length body)) (xss, rest) e)
    by_site body head (Some None) at e = absurd (err_ok (Bad (length body)) (xss, rest) e)
    by_site body head (Some (Some (fs, more))) at e = by_lists body more fs head (line_found version Sites body fs more at) (lists_at version more) refl e

    head_found : (body : List ℕ) → after_text (head_text version) t ≡ Some body → t ≡ head_text version ++ body
    head_found body e = by_test (same (take (length (head_text version)) t) (head_text version)) refl e
      where
        by_test : (b : Bool) → same (take (length (head_text version)) t) (head_text version) ≡ b → (if b then Some (drop (length (head_text version)) t) else None) ≡ Some body → t ≡ head_text version ++ body
        by_test true is e = front_found (head_text version) t body is (some_is (drop (length (head_text version)) t) body e)
        by_test false is e = absurd (none_some body e)

    by_head : (o : Option (List ℕ)) → after_text (head_text version) t ≡ o
        → (begun (length t) o >>= λ body. needed (length body) (line_at version Sites body) >>= λ s. with_site s.0 (lists_at version s.1)) ≡ Ok (xss, rest) → t ≡ head_text version ++ (kinds_text dump_kinds xss ++ rest)
    by_head None at e = absurd (err_ok (Bad (length t)) (xss, rest) e)
    by_head (Some body) at e = by_site body (head_found body at) (line_at version Sites body) refl e

pub end_spelt : (version : Version) (lines : ℕ) (t : List ℕ) → ended version lines t ≡ None → t ≡ end_text lines
unfolding ended
end_spelt version lines t e = by_test (same (take (length (end_text lines)) t) (end_text lines)) refl e
  where
    by_rest : (rest : List ℕ) → t ≡ end_text lines ++ rest → ended_with version lines t (Some rest) ≡ None → t ≡ end_text lines
    by_rest [] here e = here ∙ append-nil (end_text lines)
    by_rest (c ∷ cs) here e = absurd (none_some (Bad (suc (length cs))) (sym e))

    by_test : (b : Bool) → same (take (length (end_text lines)) t) (end_text lines) ≡ b
        → ended_with version lines t (if b then Some (drop (length (end_text lines)) t) else None) ≡ None → t ≡ end_text lines
    by_test true is e = by_rest (drop (length (end_text lines)) t) (front_found (end_text lines) t (drop (length (end_text lines)) t) is refl) e
    by_test false is e = absurd (none_some (stray version lines t) (sym e))

-- all of a dump
dump_spelt : (version : Version) (t : List ℕ) (xss : List (List (List Field))) → dump_at version t ≡ Ok xss → t ≡ head_text version ++ (kinds_text dump_kinds xss ++ end_text (total xss))
dump_spelt version t xss e = by_rows (rows_at version t) refl e
  where
    by_end : (yss : List (List (List Field))) (rest : List ℕ) → t ≡ head_text version ++ (kinds_text dump_kinds yss ++ rest) → (o : Option Misread) → ended version (total yss) rest ≡ o
        → unless o yss ≡ Ok xss → t ≡ head_text version ++ (kinds_text dump_kinds xss ++ end_text (total xss))
    by_end yss rest here (Some f) at e = absurd (err_ok f xss e)
    by_end yss rest here None at e =
        (here ∙ ap (λ r. head_text version ++ (kinds_text dump_kinds yss ++ r)) (end_spelt version (total yss) rest at))
        ∙ ap (λ ys. head_text version ++ (kinds_text dump_kinds ys ++ end_text (total ys))) (ok_is yss xss e)

    by_rows : (r : Result (List (List (List Field)) × List ℕ) Misread) → rows_at version t ≡ r → (r >>= λ x. unless (ended version (total x.0) x.1) x.0) ≡ Ok xss
        → t ≡ head_text version ++ (kinds_text dump_kinds xss ++ end_text (total xss))
    by_rows (Err f) at e = absurd (err_ok f xss e)
    by_rows (Ok x) at e = by_end x.0 x.1 (rows_spelt version t x.0 x.1 at) (ended version (total x.0) x.1) refl e

by_row : {R : Type 0} (kind : Kind) (line : R → Line) → ((row : R) → (line row).kind ≡ kind) → (rows : List R) → texts kind (fields_by line rows) ≡ lines_by line rows
by_row kind line is [] = refl
by_row kind line is (row ∷ rows) = ap (λ k. text_of k (line row).fields ++ texts kind (fields_by line rows)) (sym (is row)) ∙ ap (λ x. line_text (line row) ++ x) (by_row kind line is rows)

router_kind : (version : Version) (row : Router) → (router_line version row).kind ≡ Routers
router_kind One row = refl
router_kind Two row = refl

and_then : (x y a b : List ℕ) → x ≡ a → y ≡ b → x ++ y ≡ a ++ b
and_then x y a b e f = ap (λ z. z ++ y) e ∙ ap (λ z. a ++ z) f

lines_spelt : (version : Version) (w : Rows) → kinds_text dump_kinds (row_fields version w) ≡ lines_text version w
lines_spelt version w =
    and_then _ _ _ _ (append-nil (line_text (site_line w.site)))
    (and_then _ _ _ _ (by_row Members member_line (λ row. refl) w.members)
    (and_then _ _ _ _ (by_row Contacts contact_line (λ row. refl) w.contacts)
    (and_then _ _ _ _ (by_row Keys key_line (λ row. refl) w.keys)
    (and_then _ _ _ _ (by_row Switches switch_line (λ row. refl) w.switches)
    (and_then _ _ _ _ (by_row Ports port_line (λ row. refl) w.ports)
    (and_then _ _ _ _ (by_row Vlans vlan_line (λ row. refl) w.vlans)
    (and_then _ _ _ _ (by_row Interfaces interface_line (λ row. refl) w.interfaces)
    (and_then _ _ _ _ (by_row Addresses address_line (λ row. refl) w.addresses)
    (and_then _ _ _ _ (by_row Routers (router_line version) (router_kind version) w.routers)
    (and_then _ _ _ _ (by_row Prefixes prefix_line (λ row. refl) w.prefixes)
    (and_then _ _ _ _ (by_row Origins origin_line (λ row. refl) w.origins)
    (and_then _ _ _ _ (by_row Rules rule_line (λ row. refl) w.rules)
    (and_then _ _ _ _ (by_row Bogons bogon_line (λ row. refl) w.public.bogons)
    (and_then _ _ _ _ (by_row BogonAs bogon_as_line (λ row. refl) w.public.bogon_as)
    (and_then _ _ _ _ (by_row Transit transit_line (λ row. refl) w.public.transit)
    (append-nil (texts Roas (fields_by roa_line w.public.roas)) ∙ by_row Roas roa_line (λ row. refl) w.public.roas))))))))))))))))

pub rows_are_text : (version : Version) (t : List ℕ) (w : Rows) → dump_at version t ≡ Ok (row_fields version w) → t ≡ dump_text version w
rows_are_text version t w e =
    dump_spelt version t (row_fields version w) e
    ∙ (ap (λ x. head_text version ++ (x ++ end_text (total (row_fields version w)))) (lines_spelt version w)
    ∙ ap (λ n. head_text version ++ (lines_text version w ++ end_text n)) (total_rows version w))
