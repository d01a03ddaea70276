-- The numbers of the reasons for which a route server refuses a route.
use Rattle.std.specs.Prelude.{ℕ, Bool, ◌==◌}
use Rattle.ixp_policy.specs.declared.line.Reason.{Reason}
use Rattle.ixp_policy.specs.declared.line.Reason.TheVariants.{PrefixTooLong, PrefixTooShort, Bogon, BogonAsInPath, PathTooLong, PathEmpty, FirstAsNotPeerAs, NextHopNotPeer, PrefixNotRegistered, OriginNotRegistered, OriginInvalid, TransitFreeAsInPath, TooManyCommunities}

-- the third part of rs:1101:number
abbrev pub number_of : Reason → ℕ
number_of PrefixTooLong = 1
number_of PrefixTooShort = 2
number_of Bogon = 3
number_of BogonAsInPath = 4
number_of PathTooLong = 5
number_of PathEmpty = 6
number_of FirstAsNotPeerAs = 7
number_of NextHopNotPeer = 8
number_of PrefixNotRegistered = 9
number_of OriginNotRegistered = 10
number_of OriginInvalid = 13
number_of TransitFreeAsInPath = 14
number_of TooManyCommunities = 15

-- each reason has a number of its own
abbrev pub same_reason : Reason → Reason → Bool
same_reason a b = number_of a == number_of b
