-- The number that a refused route's tag tells is that of the line by which it is refused.
use Rattle.std.proofs.Common.{◌≡◌, ℕ, Bool, true, false, ◌&&◌, ◌||◌, ◌==◌, not, List, [], ◌∷◌, ◌++◌, filter, Option, Some, None, is_none, refl, ap, ◌∙◌, true≢false, if◌then◌else◌}
use Rattle.std.specs.List.{AllByRecursion}
use Rattle.ixp_lang.specs.declared.communities.TheConstants.{ORIGIN_STATE, FINDING, REFUSED}
use Rattle.ixp_lang.specs.declared.route.Route.{Route}
use Rattle.ixp_lang.specs.Texts.{reason_of}
use Rattle.ixp_registry.specs.declared.registry.Registry.{Registry}
use Rattle.ixp_registry.specs.declared.router.Router.{Router}
use Rattle.ixp_registry.specs.Sessions.{Session}
use Rattle.ixp_policy.specs.declared.line.Line.{Line}
use Rattle.ixp_policy.specs.Fates.{passes}
use Rattle.ixp_policy.specs.Import.{first_that_holds, import_table, is_report, refusal, refusal_number}
use Rattle.ixp_policy.specs.Reasons.{number_of}
use Rattle.ixp_policy.specs.Tags.{chosen, findings, refusal_told, tagged}
use Rattle.ixp_compile.proofs.Communities.{eq_refl}
use Rattle.ixp_explain.specs.Explained.{number_told}

no_reason : (a b c d : Bool) → (a && (b || c || d)) ≡ false → (a && d) ≡ false
no_reason false b c d e = refl
no_reason true b c false e = refl
no_reason true true c true e = absurd (true≢false e)
no_reason true false true true e = absurd (true≢false e)
no_reason true false false true e = absurd (true≢false e)

and_false : (a b : Bool) → b ≡ false → (a && b) ≡ false
and_false true b e = e
and_false false b e = refl

one_brought : (rs : ℕ) (t : ℕ × ℕ × ℕ) (kept rest : List (ℕ × ℕ × ℕ)) → reason_of rs (kept ++ rest) ≡ reason_of rs rest → (b : Bool) → is_report rs t ≡ b
    → reason_of rs ((if not b then t ∷ kept else kept) ++ rest) ≡ reason_of rs rest
one_brought rs t kept rest more true e = more
one_brought rs t kept rest more false e =
    ap (λ b. if b then Some t.2 else reason_of rs (kept ++ rest)) (no_reason (t.0 == rs) (t.1 == ORIGIN_STATE) (t.1 == FINDING) (t.1 == REFUSED) e) ∙ more

-- what a route keeps of its own tells no reason
none_brought : (rs : ℕ) (ts rest : List (ℕ × ℕ × ℕ)) → reason_of rs (filter (λ t. not (is_report rs t)) ts ++ rest) ≡ reason_of rs rest
none_brought rs [] rest = refl
none_brought rs (t ∷ ts) rest =
    one_brought rs t (filter (λ t. not (is_report rs t)) ts) rest (none_brought rs ts rest) (is_report rs t) refl

one_found : (rs : ℕ) (t : ℕ × ℕ × ℕ) (lines : List (Bool × (ℕ × ℕ × ℕ))) (rest : List (ℕ × ℕ × ℕ)) → (t.1 == REFUSED) ≡ false
    → reason_of rs (chosen lines ++ rest) ≡ reason_of rs rest → (b : Bool) → reason_of rs (chosen ((b, t) ∷ lines) ++ rest) ≡ reason_of rs rest
one_found rs t lines rest apart more false = more
one_found rs t lines rest apart more true =
    ap (λ b. if b then Some t.2 else reason_of rs (chosen lines ++ rest)) (and_false (t.0 == rs) (t.1 == REFUSED) apart) ∙ more

-- nor does what is found otherwise
none_found : (rs : ℕ) (lines : List (Bool × (ℕ × ℕ × ℕ))) (rest : List (ℕ × ℕ × ℕ)) → AllByRecursion (λ l. (l.1.1 == REFUSED) ≡ false) lines
    → reason_of rs (chosen lines ++ rest) ≡ reason_of rs rest
none_found rs [] rest all = refl
none_found rs ((b, t) ∷ lines) rest all = one_found rs t lines rest all.0 (none_found rs lines rest all.1) b

-- the tag of the refusal does
refusal_found : (router : Router) (refused : Option Line) → reason_of router.asn.0 (refusal_told router refused) ≡ refusal_number refused
refusal_found router None = refl
refusal_found router (Some l) = ap (λ b. if b then Some (number_of l.reason) else None) (ap (λ b. b && true) (eq_refl router.asn.0))

reason_found : (r : Registry) (router : Router) (s : Session) (route : Route) → reason_of router.asn.0 (tagged r router s route).triples ≡ refusal_number (refusal r router s route)
unfolding findings
reason_found r router s route =
    let lines : List Line = import_table r router s route in
    let told : List (ℕ × ℕ × ℕ) = refusal_told router (first_that_holds lines) in
    none_brought router.asn.0 route.triples (chosen (findings r router s route lines) ++ told)
    ∙ none_found router.asn.0 (findings r router s route lines) told (refl, (refl, (refl, (refl, (refl, (refl, (refl, tt)))))))
    ∙ refusal_found router (first_that_holds lines)

-- the number behind `stopped`
pub number_is : (r : Registry) (router : Router) (s : Session) (route : Route)
    → number_told (Some router.asn) (Some (tagged r router s route)) (passes r router s route) ≡ refusal_number (refusal r router s route)
number_is r router s route = go (refusal r router s route) (reason_found r router s route) where
  go : (o : Option Line) → reason_of router.asn.0 (tagged r router s route).triples ≡ refusal_number o
      → number_told (Some router.asn) (Some (tagged r router s route)) (is_none o) ≡ refusal_number o
  go None e = refl
  go (Some l) e = e
