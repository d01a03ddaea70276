-- A route text is read as it is spelt, and says one thing.
use Rattle.std.proofs.Common.{◌≡◌, ℕ, suc, ◌+◌, ◌<◌, ◌≤◌, cond, not, nat_lt, ◌==◌, List, [], ◌∷◌, ◌++◌, length, take, drop, unwrap_or, Some, None, Result, Ok, Err, refl, sym, ap, ◌∙◌, subst, arith, append-nil, ne_eqb, length-append, lt-ltb}
use Rattle.std.specs.List.{AllByRecursion, position_or_len}
use Rattle.std.proofs.lemmas.Bool.{cond-true}
use Rattle.std.proofs.lemmas.List.{take-append-drop}
use Rattle.std.proofs.Math.Seq.{take-append_seam, drop-append_seam}
use Rattle.ixp_num.specs.declared.addr.Addr.{Addr}
use Rattle.ixp_num.specs.declared.asn.Asn.{Asn}
use Rattle.ixp_num.specs.declared.prefix.Prefix.{Prefix}
use Rattle.ixp_num.specs.declared.fault.NumFault.{NumFault}
use Rattle.ixp_num.specs.Reading.{mark_at}
use Rattle.ixp_num.specs.Answers.{AddrAnswer, PrefixAnswer}
use Rattle.ixp_num.specs.Forms.{IsDigit}
use Rattle.ixp_num.proofs.Digits.{Ends, mark_again}
use Rattle.ixp_num.proofs.NoBlanks.{NotBlank, addr_no_blank, prefix_no_blank}
use Rattle.ixp_lang.specs.declared.route.Route.{Route}
use Rattle.ixp_lang.specs.declared.reading.fault.Stop.{Stop}
use Rattle.ixp_lang.specs.RouteReading.{◌then◌, texted, list_at, asn_item, pair_item, triple_item, blank_at, before_blank, from_blank, after_blank, stop_at, path_field, path_at, whole, route_end, WithHop, FromHop, WithPath, WithNet, ReadsRoute}
use Rattle.ixp_lang.specs.RouteTexts.{IsAsnText, IsPairText, IsTripleText, AsnFits, PairFits, TripleFits, IsListText, IsRouteText, IsBounded}
use Rattle.ixp_lang.proofs.RouteItems.{mark_sound, asn_spells, pair_spells, triple_spells, asn_no_dash, pair_no_dash, triple_no_dash}
use Rattle.ixp_lang.proofs.RouteListTexts.{then_ok, texted_ok, list_sound, list_again}

-- the first blank stands behind a field without one
first_at : (field rest : List ℕ) → AllByRecursion NotBlank field → position_or_len (λ b. b == 32) (field ++ 32 ∷ rest) ≡ length field
first_at [] rest free = refl
first_at (c ∷ cs) rest free =
    let more : 1 + length cs ≡ suc (length cs) = omega arith in
    ap (λ b. cond (not b) (1 + position_or_len (λ b. b == 32) (cs ++ 32 ∷ rest)) 0) (ne_eqb c 32 free.0) ∙ (ap (λ n. 1 + n) (first_at cs rest free.1) ∙ more)

blank_there : (field rest : List ℕ) → AllByRecursion NotBlank field → blank_at (field ++ 32 ∷ rest) ≡ length field
blank_there field rest free =
    let at = first_at field rest free in
    let size = length-append field (32 ∷ rest) in
    let inside : position_or_len (λ b. b == 32) (field ++ 32 ∷ rest) < length (field ++ 32 ∷ rest) = omega arith in
    ap (λ o. unwrap_or o (length (field ++ 32 ∷ rest))) (cond-true (nat_lt (position_or_len (λ b. b == 32) (field ++ 32 ∷ rest)) (length (field ++ 32 ∷ rest))) (Some (position_or_len (λ b. b == 32) (field ++ 32 ∷ rest))) None (lt-ltb (position_or_len (λ b. b == 32) (field ++ 32 ∷ rest)) (length (field ++ 32 ∷ rest)) inside))
    ∙ at

field_before : (field rest : List ℕ) → AllByRecursion NotBlank field → before_blank (field ++ 32 ∷ rest) ≡ field
field_before field rest free = ap (λ n. take n (field ++ 32 ∷ rest)) (blank_there field rest free) ∙ take-append_seam field (32 ∷ rest)

rest_from : (field rest : List ℕ) → AllByRecursion NotBlank field → from_blank (field ++ 32 ∷ rest) ≡ 32 ∷ rest
rest_from field rest free = ap (λ n. drop n (field ++ 32 ∷ rest)) (blank_there field rest free) ∙ drop-append_seam field (32 ∷ rest)

parts : (t : List ℕ) → t ≡ before_blank t ++ from_blank t
parts t = sym (take-append-drop (blank_at t) t)

blank_sound : (t rest : List ℕ) → after_blank t ≡ Ok rest → t ≡ 32 ∷ rest
blank_sound t rest e = mark_sound 32 t rest (texted_ok (mark_at 32 t) rest e)

blank_again : (rest : List ℕ) → after_blank (32 ∷ rest) ≡ Ok rest
blank_again rest = ap texted (mark_again 32 rest)

-- what is read is spelt

path_ok : (t : List ℕ) (r : Result (List Asn × List ℕ) Stop) (p : List Asn × List ℕ) → path_field t r ≡ Ok p → r ≡ Ok p
path_ok t (Ok q) p e = e
path_ok t (Err stop) p e = absurd (let h : ⊥ = cc in h)

whole_ok : (r s : Route) (t : List ℕ) → whole r t ≡ Ok s → (t ≡ []) × (r ≡ s)
whole_ok r s [] e = (refl, (let same : ◌≡◌ {A = Result Route Stop} (Ok r) (Ok s) = e in cc))
whole_ok r s (c ∷ cs) e = absurd (let h : ⊥ = cc in h)

abbrev route_with : Prefix → List Asn → Addr → List (ℕ × ℕ) → List (ℕ × ℕ × ℕ) → Route
route_with net path next_hop pairs triples = record { net = net; path = path; next_hop = next_hop; pairs = pairs; triples = triples }

-- a text and the route that it spells
abbrev Spelt : List ℕ → Route → Type 0
Spelt t r = IsRouteText r t × IsBounded r

abbrev with_triples : Prefix → List Asn → Addr → List (ℕ × ℕ) → List ℕ → Result Route Stop
with_triples net path hop pairs b = list_at triple_item b then λ triples. whole (route_with net path hop pairs triples.0) triples.1

abbrev with_pairs : Prefix → List Asn → Addr → List ℕ → Result Route Stop
with_pairs net path hop a = list_at pair_item a then λ pairs. after_blank pairs.1 then with_triples net path hop pairs.0

abbrev path_rest : List Asn × List ℕ → Result (List Asn × List ℕ) Stop
path_rest p = after_blank p.1 then λ rest. Ok (p.0, rest)

end_sound : (t net_text hop_text path_text back : List ℕ) (net : Prefix) (path : List Asn) (hop : Addr) (r : Route)
    → t ≡ net_text ++ 32 ∷ (path_text ++ 32 ∷ (hop_text ++ back)) → PrefixAnswer net_text (Ok net) → AddrAnswer hop_text (Ok hop)
    → (s : List ℕ) × (path_text ≡ s) × IsListText IsAsnText path s × AllByRecursion AsnFits path × (length path ≤ 1000)
    → route_end net path hop back ≡ Ok r → Spelt t r
end_sound t net_text hop_text path_text back net path hop r e is_net is_hop (s, same_path, is_path, path_fits, path_few) reads =
    let one = then_ok (after_blank back) (with_pairs net path hop) r reads in
    let blank = blank_sound back one.0 one.1 in
    let two = then_ok (list_at pair_item one.0) (λ pairs. after_blank pairs.1 then with_triples net path hop pairs.0) r one.2 in
    let pairs = list_sound pair_item IsPairText PairFits pair_spells one.0 two.0 two.1 in
    let three = then_ok (after_blank two.0.1) (with_triples net path hop two.0.0) r two.2 in
    let blank' = blank_sound two.0.1 three.0 three.1 in
    let four = then_ok (list_at triple_item three.0) (λ triples. whole (route_with net path hop two.0.0 triples.0) triples.1) r three.2 in
    let triples = list_sound triple_item IsTripleText TripleFits triple_spells three.0 four.0 four.1 in
    let ended = whole_ok (route_with net path hop two.0.0 four.0.0) r four.0.1 four.2 in
    let last : three.0 ≡ triples.0 = triples.1 ∙ (ap (λ x. triples.0 ++ x) ended.0 ∙ append-nil triples.0) in
    let middle : one.0 ≡ pairs.0 ++ 32 ∷ triples.0 = pairs.1 ∙ ap (λ x. pairs.0 ++ x) (blank' ∙ ap (λ x. 32 ∷ x) last) in
    let all : t ≡ net_text ++ 32 ∷ (path_text ++ 32 ∷ (hop_text ++ 32 ∷ (pairs.0 ++ 32 ∷ triples.0))) =
    e ∙ ap (λ x. net_text ++ 32 ∷ (path_text ++ 32 ∷ (hop_text ++ x))) (blank ∙ ap (λ x. 32 ∷ x) middle) in
    subst (Spelt t) ended.1 (
      record {
        net = net_text;
        path = path_text;
        next_hop = hop_text;
        pairs = pairs.0;
        triples = triples.0;
        whole = all;
        is_net = is_net;
        is_path = subst (IsListText IsAsnText path) (sym same_path) is_path;
        is_next_hop = is_hop;
        is_pairs = pairs.2;
        is_triples = triples.2;
      },
      record { path = path_fits; pairs = pairs.3; triples = triples.3; path_length = path_few; pairs_length = pairs.4; triples_length = triples.4 },
    )

-- an answer's next hop
hop_sound : (t net_text path_text u : List ℕ) (net : Prefix) (path : List Asn) (r : Route) (hop : Result Addr NumFault)
    → t ≡ net_text ++ 32 ∷ (path_text ++ 32 ∷ u) → PrefixAnswer net_text (Ok net) → AddrAnswer (before_blank u) hop
    → IsListText IsAsnText path path_text × AllByRecursion AsnFits path × (length path ≤ 1000)
    → WithHop net path u (Ok r) hop → Spelt t r
hop_sound t net_text path_text u net path r (Ok a) e is_net is_hop is_path reads =
    end_sound t net_text (before_blank u) path_text (from_blank u) net path a r
    (e ∙ ap (λ x. net_text ++ 32 ∷ (path_text ++ 32 ∷ x)) (parts u)) is_net is_hop (path_text, refl, is_path.0, is_path.1, is_path.2) reads
hop_sound t net_text path_text u net path r (Err f) e is_net is_hop is_path reads = absurd (let there : ◌≡◌ {A = Result Route Stop} (Ok r) (Err (stop_at u f)) = reads in let h : ⊥ = cc in h)

path_sound : (t net_text u : List ℕ) (net : Prefix) (r : Route) (p : List Asn × List ℕ) → t ≡ net_text ++ u → PrefixAnswer net_text (Ok net) → (after_blank u then path_at) ≡ Ok p → WithPath net (Ok r) (Ok p) → Spelt t r
path_sound t net_text u net r p e is_net reads (hop, is_hop, with_hop) =
    let one = then_ok (after_blank u) path_at p reads in
    let blank = blank_sound u one.0 one.1 in
    let two = then_ok (list_at asn_item one.0) path_rest p (path_ok one.0 (list_at asn_item one.0 then path_rest) p one.2) in
    let path = list_sound asn_item IsAsnText AsnFits asn_spells one.0 two.0 two.1 in
    let three = then_ok (after_blank two.0.1) (λ rest. Ok (two.0.0, rest)) p two.2 in
    let blank' = blank_sound two.0.1 three.0 three.1 in
    let is : (two.0.0, three.0) ≡ p = (let there : ◌≡◌ {A = Result (List Asn × List ℕ) Stop} (Ok (two.0.0, three.0)) (Ok p) = three.2 in cc) in
    let first : two.0.0 ≡ p.0 = ap (λ (p : List Asn × List ℕ). p.0) is in
    let second : three.0 ≡ p.1 = ap (λ (p : List Asn × List ℕ). p.1) is in
    let all : t ≡ net_text ++ 32 ∷ (path.0 ++ 32 ∷ p.1) =
    e ∙ ap (λ x. net_text ++ x) (blank ∙ ap (λ x. 32 ∷ x) (path.1 ∙ ap (λ x. path.0 ++ x) (blank' ∙ ap (λ x. 32 ∷ x) second))) in
    hop_sound t net_text path.0 p.1 net p.0 r hop all is_net is_hop
    (subst (λ xs. IsListText IsAsnText xs path.0 × AllByRecursion AsnFits xs × (length xs ≤ 1000)) first (path.2, path.3, path.4)) with_hop

path_cases : (t net_text u : List ℕ) (net : Prefix) (r : Route) (x : Result (List Asn × List ℕ) Stop) → (after_blank u then path_at) ≡ x → t ≡ net_text ++ u → PrefixAnswer net_text (Ok net) → WithPath net (Ok r) x → Spelt t r
path_cases t net_text u net r (Ok p) same e is_net with_path = path_sound t net_text u net r p e is_net same with_path
path_cases t net_text u net r (Err stop) same e is_net with_path = absurd (let there : ◌≡◌ {A = Result Route Stop} (Ok r) (Err stop) = with_path in let h : ⊥ = cc in h)

net_sound : (t : List ℕ) (r : Route) (net : Result Prefix NumFault) → PrefixAnswer (before_blank t) net → WithNet t (Ok r) net → Spelt t r
net_sound t r (Ok p) is_net with_net = path_cases t (before_blank t) (from_blank t) p r (after_blank (from_blank t) then path_at) refl (parts t) is_net with_net
net_sound t r (Err f) is_net with_net = absurd (let there : ◌≡◌ {A = Result Route Stop} (Ok r) (Err (stop_at t f)) = with_net in let h : ⊥ = cc in h)

pub route_sound : (t : List ℕ) (r : Route) → ReadsRoute t (Ok r) → Spelt t r
route_sound t r (net, is_net, with_net) = net_sound t r net is_net with_net

-- what is spelt is read

blank_follows : (rest : List ℕ) → Ends IsDigit (32 ∷ rest) × Ends (λ c. c ≡ 44) (32 ∷ rest)
blank_follows rest = ((λ d. omega arith), (λ e. omega arith))

path_read : (r : Route) (s rest : List ℕ) → IsListText IsAsnText r.path s → IsBounded r → path_at (s ++ 32 ∷ rest) ≡ Ok (r.path, rest)
path_read r s rest is bounded =
    ap (λ x. path_field (s ++ 32 ∷ rest) (x then path_rest)) (list_again asn_item IsAsnText AsnFits asn_spells asn_no_dash r.path s (32 ∷ rest) is bounded.path bounded.path_length (blank_follows rest))
    ∙ ap (λ x. path_field (s ++ 32 ∷ rest) (x then λ rest. Ok (r.path, rest))) (blank_again rest)

end_read : (r : Route) (pairs triples : List ℕ) → IsListText IsPairText r.pairs pairs → IsListText IsTripleText r.triples triples → IsBounded r → route_end r.net r.path r.next_hop (32 ∷ (pairs ++ 32 ∷ triples)) ≡ Ok r
end_read r pairs triples is_pairs is_triples bounded =
    ap (λ x. x then with_pairs r.net r.path r.next_hop) (blank_again (pairs ++ 32 ∷ triples))
    ∙ (ap (λ x. x then λ pairs. after_blank pairs.1 then with_triples r.net r.path r.next_hop pairs.0) (list_again pair_item IsPairText PairFits pair_spells pair_no_dash r.pairs pairs (32 ∷ triples) is_pairs bounded.pairs bounded.pairs_length (blank_follows triples))
    ∙ (ap (λ x. x then with_triples r.net r.path r.next_hop r.pairs) (blank_again triples)
    ∙ ap (λ x. x then λ triples. whole (route_with r.net r.path r.next_hop r.pairs triples.0) triples.1)
    (ap (list_at triple_item) (sym (append-nil triples)) ∙ list_again triple_item IsTripleText TripleFits triple_spells triple_no_dash r.triples triples [] is_triples bounded.triples bounded.triples_length (tt, tt))))

pub route_read : (t : List ℕ) (r : Route) → IsRouteText r t → IsBounded r → ReadsRoute t (Ok r)
route_read t r is bounded =
    let rest = is.path ++ 32 ∷ (is.next_hop ++ 32 ∷ (is.pairs ++ 32 ∷ is.triples)) in
    let tail = is.next_hop ++ 32 ∷ (is.pairs ++ 32 ∷ is.triples) in
    let net_free = prefix_no_blank is.net r.net is.is_net in
    let hop_free = addr_no_blank is.next_hop r.next_hop is.is_next_hop in
    let net_field : before_blank t ≡ is.net = ap before_blank is.whole ∙ field_before is.net rest net_free in
    let net_rest : from_blank t ≡ 32 ∷ rest = ap from_blank is.whole ∙ rest_from is.net rest net_free in
    let path : (after_blank (from_blank t) then path_at) ≡ Ok (r.path, tail) =
    ap (λ x. after_blank x then path_at) net_rest ∙ (ap (λ x. x then path_at) (blank_again rest) ∙ path_read r is.path tail is.is_path bounded) in
    let hop_field = field_before is.next_hop (is.pairs ++ 32 ∷ is.triples) hop_free in
    let hop_rest = rest_from is.next_hop (is.pairs ++ 32 ∷ is.triples) hop_free in
    let end : route_end r.net r.path r.next_hop (from_blank tail) ≡ Ok r = ap (route_end r.net r.path r.next_hop) hop_rest ∙ end_read r is.pairs is.triples is.is_pairs is.is_triples bounded in
    let with_hop : FromHop r.net r.path tail (Ok r) = (Ok r.next_hop, subst (λ f. AddrAnswer f (Ok r.next_hop)) (sym hop_field) is.is_next_hop, end) in
    (Ok r.net, subst (λ f. PrefixAnswer f (Ok r.net)) (sym net_field) is.is_net, subst (WithPath r.net (Ok r)) (sym path) with_hop)
