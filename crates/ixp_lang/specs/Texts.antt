-- The texts of routes and fates.
use Rattle.std.specs.Prelude.{ℕ, Bool, true, false, ◌&&◌, ◌==◌, List, [], ◌∷◌, ◌++◌, Option, Some, None, codes, decimal, if◌then◌else◌}
use Rattle.ixp_num.specs.declared.asn.Asn.{Asn}
use Rattle.ixp_num.specs.Printing.{addr_text, prefix_text}
use Rattle.ixp_num_tables.specs.Joined.{more_joined}
use Rattle.ixp_lang.specs.declared.route.Route.{Route}
use Rattle.ixp_lang.specs.declared.fate.Fate.{Fate}
use Rattle.ixp_lang.specs.declared.communities.TheConstants.{REFUSED}

-- a list with commas, or `-` where it is empty
abbrev pub list_text : {A : Type 0} → (A → List ℕ) → List A → List ℕ
list_text text [] = codes "-"
list_text text (x ∷ xs) = text x ++ more_joined (codes ",") text xs

abbrev pub asn_text : Asn → List ℕ
asn_text a = decimal a.0

-- `a:b` (RFC 1997) and `a:b:c` (RFC 8092)
abbrev pub pair_text : ℕ × ℕ → List ℕ
pair_text p = decimal p.0 ++ codes ":" ++ decimal p.1

abbrev pub triple_text : ℕ × ℕ × ℕ → List ℕ
triple_text t = decimal t.0 ++ codes ":" ++ decimal t.1 ++ codes ":" ++ decimal t.2

-- path, next hop, communities, large communities
abbrev pub attributes_text : Route → List ℕ
attributes_text r =
    list_text asn_text r.path ++ codes " " ++ addr_text r.next_hop ++ codes " " ++ list_text pair_text r.pairs
    ++ codes " "
    ++ list_text triple_text r.triples

-- the net, and the attributes
abbrev pub route_text : Route → List ℕ
route_text r = prefix_text r.net ++ codes " " ++ attributes_text r

-- the third part of the first large community (asn, 1101, n): why a route server stopped the route
abbrev pub reason_of : ℕ → List (ℕ × ℕ × ℕ) → Option ℕ
reason_of asn [] = None
reason_of asn (t ∷ ts) = if t.0 == asn && t.1 == REFUSED then Some t.2 else reason_of asn ts

abbrev pub stopped_text : Option ℕ → List ℕ
stopped_text None = codes "stopped\n"
stopped_text (Some n) = codes "stopped " ++ decimal n ++ codes "\n"

-- the reason, where the route server's number is known
abbrev pub known_reason : Option Asn → Route → Option ℕ
known_reason None r = None
known_reason (Some a) r = reason_of a.0 r.triples

abbrev pub received_text : Option Route → List ℕ
received_text None = codes "no"
received_text (Some r) = attributes_text r

abbrev pub sent_text : List ℕ × Option Route → List ℕ
sent_text s = codes "to " ++ s.0 ++ codes " " ++ received_text s.1 ++ codes "\n"

abbrev pub all_sent_text : List (List ℕ × Option Route) → List ℕ
all_sent_text [] = []
all_sent_text (s ∷ ss) = sent_text s ++ all_sent_text ss

-- what follows the tagged route
abbrev pub outcome_text : Option Asn → Route → Bool → List (List ℕ × Option Route) → List ℕ
outcome_text rs r false sent = stopped_text (known_reason rs r)
outcome_text rs r true sent = codes "passed\n" ++ all_sent_text sent

abbrev pub table_text : Option Asn → Option Route → Bool → List (List ℕ × Option Route) → List ℕ
table_text rs None passed sent = codes "dropped\n"
table_text rs (Some r) passed sent =
    codes "tagged " ++ attributes_text r ++ codes "\n" ++ outcome_text rs r passed sent

-- one line for the route in its own table, one for the pipe, and one for each other session; the number of
-- the route server may be known
abbrev pub fate_text : Fate → Option Asn → List ℕ
fate_text f rs = table_text rs f.table f.passed f.sent
