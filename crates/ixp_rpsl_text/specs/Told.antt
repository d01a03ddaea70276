-- What functions that may run out of memory tell of a listing. Nobody has to believe this: what is written of
-- an input is in Listings.antt.
use Rattle.std.specs.Prelude.{◌≡◌, ℕ, List, Result, Ok, Err}
use Rattle.std.specs.Global.{Vec}
use Rattle.ixp_num.specs.declared.family.Family.{Family}
use Rattle.ixp_rpsl.specs.Breadth.{ExpandAnswer}
use Rattle.ixp_rpsl.specs.Objects.{ReadAnswer}
use Rattle.ixp_rpsl.specs.declared.fault.RpslFault.{RpslFault}
use Rattle.ixp_rpsl.specs.declared.fault.RpslFault.TheVariants as rpsl
use Rattle.ixp_rpsl.specs.declared.objects.Objects.{Objects}
use Rattle.ixp_rpsl.specs.declared.objects.Reach.{Reach}
use Rattle.ixp_rpsl_text.specs.declared.fault.ExpandCause.TheVariants as cause
use Rattle.ixp_rpsl_text.specs.declared.fault.ExpandFault.{ExpandFault}
use Rattle.ixp_rpsl_text.specs.declared.fault.ExpandFault.TheVariants as fault
use Rattle.ixp_rpsl_text.specs.declared.listing.Listing.{Listing}
use Rattle.ixp_rpsl_text.specs.Listings.{Expands, HasTooMany, IsExpanded, IsListing}

-- the text of a listing of an expansion, or too many items of it
abbrev pub ListingAnswer : Objects → List Reach → Family → Listing → Result (Vec ℕ) RpslFault → Type 0
ListingAnswer o c family listing (Ok text) = IsListing o c family listing text.items
ListingAnswer o c family listing (Err (rpsl.TooMany have)) = HasTooMany o c family listing have
ListingAnswer o c family listing (Err (rpsl.Line n)) = ⊥
ListingAnswer o c family listing (Err rpsl.NoSet) = ⊥
ListingAnswer o c family listing (Err rpsl.NoMemory) = Unit {0}

-- what is written of an input, or why nothing is
abbrev pub TextAnswer : List ℕ → List ℕ → Family → Listing → Result (Vec ℕ) RpslFault → Type 0
TextAnswer input root family listing (Ok text) = Expands input root family listing text.items
TextAnswer input root family listing (Err (rpsl.Line n)) = ReadAnswer input (Err (rpsl.Line n))
TextAnswer input root family listing (Err rpsl.NoSet) =
    (o : Objects) × ReadAnswer input (Ok o) × ExpandAnswer o.sets root (Err rpsl.NoSet)
TextAnswer input root family listing (Err (rpsl.TooMany have)) =
    (o : Objects) × (c : List Reach) × IsExpanded input root o c × HasTooMany o c family listing have
TextAnswer input root family listing (Err rpsl.NoMemory) = Unit {0}

-- a fault as it is reported
abbrev pub reported : RpslFault → List ℕ → ExpandFault
reported (rpsl.Line n) root = fault.Bad (cause.Line n)
reported rpsl.NoSet root = fault.Bad (cause.NoSet root)
reported (rpsl.TooMany have) root = fault.Bad (cause.TooMany have)
reported rpsl.NoMemory root = fault.NoMemory
