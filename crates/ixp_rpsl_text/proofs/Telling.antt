-- What a fault tells of an input.
use Rattle.std.proofs.Common.{◌≡◌, ◌⊎◌, inl, inr, ℕ, List, Result, Ok, Err, refl}
use Rattle.std.specs.Global.{Vec}
use Rattle.ixp_num.specs.declared.asn.Asn.{Asn}
use Rattle.ixp_num.specs.declared.family.Family.{Family}
use Rattle.ixp_rpsl.specs.Breadth.{ExpandAnswer}
use Rattle.ixp_rpsl.specs.Objects.{ReadAnswer}
use Rattle.ixp_rpsl.specs.declared.fault.RpslFault.{RpslFault}
use Rattle.ixp_rpsl.specs.declared.fault.RpslFault.TheVariants as rpsl
use Rattle.ixp_rpsl.specs.declared.objects.Objects.{Objects}
use Rattle.ixp_rpsl.specs.declared.objects.Reach.{Reach}
use Rattle.ixp_rpsl_text.specs.declared.listing.Listing.{Listing}
use Rattle.ixp_rpsl_text.specs.declared.listing.Listing.TheVariants.{Origins, Prefixes}
use Rattle.ixp_rpsl_text.specs.Listings.{ExpandsNot, IsExpanded, OriginsAnswer, PrefixesAnswer, Refused}
use Rattle.ixp_rpsl_text.specs.Told.{ListingAnswer, TextAnswer, reported}

pub no_origins : (o : Objects) (c : List Reach) (family : Family) (e : RpslFault) → OriginsAnswer o c (Err e) → ListingAnswer o c family Origins (Err e)
no_origins o c family (rpsl.TooMany have) is = is
no_origins o c family (rpsl.Line n) is = is
no_origins o c family rpsl.NoSet is = is
no_origins o c family rpsl.NoMemory is = is

pub no_origins_first : (o : Objects) (c : List Reach) (family : Family) (e : RpslFault) → OriginsAnswer o c (Err e) → ListingAnswer o c family Prefixes (Err e)
no_origins_first o c family (rpsl.TooMany have) is = inl is
no_origins_first o c family (rpsl.Line n) is = is
no_origins_first o c family rpsl.NoSet is = is
no_origins_first o c family rpsl.NoMemory is = is

pub no_prefixes : (o : Objects) (c : List Reach) (family : Family) (origins : List Asn) (e : RpslFault) → OriginsAnswer o c (Ok origins) → PrefixesAnswer o family origins (Err e)
    → ListingAnswer o c family Prefixes (Err e)
no_prefixes o c family origins (rpsl.TooMany have) are is = inr (origins, are, is)
no_prefixes o c family origins (rpsl.Line n) are is = is
no_prefixes o c family origins rpsl.NoSet are is = is
no_prefixes o c family origins rpsl.NoMemory are is = is

module _ (input root : List ℕ) (family : Family) (listing : Listing) where
  pub unread : (e : RpslFault) → ReadAnswer input (Err e) → TextAnswer input root family listing (Err e)
  unread (rpsl.Line n) is = is
  unread rpsl.NoSet is = absurd is
  unread (rpsl.TooMany have) is = absurd is
  unread rpsl.NoMemory is = is

  pub unexpanded : (o : Objects) (e : RpslFault) → ReadAnswer input (Ok o) → ExpandAnswer o.sets root (Err e) → TextAnswer input root family listing (Err e)
  unexpanded o (rpsl.Line n) read is = absurd is
  unexpanded o rpsl.NoSet read is = (o, read, is)
  unexpanded o (rpsl.TooMany have) read is = absurd is
  unexpanded o rpsl.NoMemory read is = is

  pub listed : (o : Objects) (c : List Reach) (answer : Result (Vec ℕ) RpslFault) → ReadAnswer input (Ok o) → ExpandAnswer o.sets root (Ok c) → ListingAnswer o c family listing answer
      → TextAnswer input root family listing answer
  listed o c (Ok text) read expanded is = (o, c, (read, expanded), is)
  listed o c (Err (rpsl.Line n)) read expanded is = absurd is
  listed o c (Err rpsl.NoSet) read expanded is = absurd is
  listed o c (Err (rpsl.TooMany have)) read expanded is = (o, c, (read, expanded), is)
  listed o c (Err rpsl.NoMemory) read expanded is = is

  pub refused : (e : RpslFault) → TextAnswer input root family listing (Err e) → Refused (ExpandsNot input root family listing) (reported e root)
  refused (rpsl.Line n) is = is
  refused rpsl.NoSet is = (refl, is)
  refused (rpsl.TooMany have) is = is
  refused rpsl.NoMemory is = is

pub ruleset telling = (unread, unexpanded, listed)
