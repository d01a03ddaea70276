-- Types, and which operands an operator takes (BIRD 2 User's Guide, chapter "Filters", operators).
use Rattle.std.specs.Prelude.{ℕ, Bool, true, false, ◌||◌, ◌&&◌, ◌==◌, Option, Some, None}
use Rattle.ixp_lang.specs.declared.expr.Attr.{Attr}
use Rattle.ixp_lang.specs.declared.expr.Attr.TheVariants as attr
use Rattle.ixp_lang.specs.declared.expr.Op.{Op}
use Rattle.ixp_lang.specs.declared.expr.Op.TheVariants as op
use Rattle.ixp_lang.specs.declared.item.Ty.{Ty}
use Rattle.ixp_lang.specs.declared.item.Ty.TheVariants as ty
use Rattle.ixp_lang_exprs.specs.declared.wanted.Expected.{Expected}
use Rattle.ixp_lang_exprs.specs.declared.wanted.Expected.TheVariants.{Anything, One, Value, NumberOrState}
use Rattle.ixp_lang_exprs.specs.declared.types.ValueType.{ValueType}
use Rattle.ixp_lang_exprs.specs.declared.types.ValueType.TheVariants.{Int, Bool as Truth, Ip, Prefix, Pair, Triple, State, IntSet, IpSet, PrefixSet, PairSet, TripleSet, Path, Pairs, Triples}

-- types are told apart by number
abbrev pub type_rank : ValueType → ℕ
type_rank Int = 0
type_rank Truth = 1
type_rank Ip = 2
type_rank Prefix = 3
type_rank Pair = 4
type_rank Triple = 5
type_rank State = 6
type_rank IntSet = 7
type_rank IpSet = 8
type_rank PrefixSet = 9
type_rank PairSet = 10
type_rank TripleSet = 11
type_rank Path = 12
type_rank Pairs = 13
type_rank Triples = 14

abbrev pub same_type : ValueType → ValueType → Bool
same_type a b = type_rank a == type_rank b

-- the type that is written so
abbrev pub type_of : Ty → ValueType
type_of ty.Int = Int
type_of ty.Bool = Truth
type_of ty.Ip = Ip
type_of ty.Prefix = Prefix
type_of ty.Pair = Pair
type_of ty.Lc = Triple
type_of ty.IntSet = IntSet
type_of ty.IpSet = IpSet
type_of ty.PrefixSet = PrefixSet
type_of ty.PairSet = PairSet
type_of ty.LcSet = TripleSet

abbrev pub attribute_type : Attr → ValueType
attribute_type attr.Net = Prefix
attribute_type attr.NetLen = Int
attribute_type attr.From = Ip
attribute_type attr.NextHop = Ip
attribute_type attr.Path = Path
attribute_type attr.First = Int
attribute_type attr.Last = Int
attribute_type attr.Len = Int
attribute_type attr.Pairs = Pairs
attribute_type attr.PairsLen = Int
attribute_type attr.Triples = Triples
attribute_type attr.TriplesLen = Int

-- `=` and `!=` compare two of this type
abbrev pub is_comparable : ValueType → Bool
is_comparable Int = true
is_comparable Truth = true
is_comparable Ip = true
is_comparable Prefix = true
is_comparable Pair = true
is_comparable Triple = true
is_comparable State = true
is_comparable _ = false

-- something can have one of this type as a member, or one of its members
abbrev pub is_sought : ValueType → Bool
is_sought Int = true
is_sought Ip = true
is_sought Prefix = true
is_sought Pair = true
is_sought Triple = true
is_sought Path = true
is_sought Pairs = true
is_sought Triples = true
is_sought _ = false

-- the type of values, and not of an attribute that stands at `~` and `!~` alone
abbrev pub is_of_values : ValueType → Bool
is_of_values Path = false
is_of_values Pairs = false
is_of_values Triples = false
is_of_values _ = true

-- one of the second type may be sought in one of the first
abbrev pub holds : ValueType → ValueType → Bool
holds IntSet left = same_type left Int || same_type left Path
holds IpSet left = same_type left Ip
holds PrefixSet left = same_type left Prefix
holds PairSet left = same_type left Pair || same_type left Pairs
holds TripleSet left = same_type left Triple || same_type left Triples
holds Path left = same_type left Int
holds Pairs left = same_type left Pair
holds Triples left = same_type left Triple
holds _ left = false

abbrev pub takes_left : Op → ValueType → Bool
takes_left op.Eq left = is_comparable left
takes_left op.Ne left = is_comparable left
takes_left op.Lt left = same_type left Int
takes_left op.Le left = same_type left Int
takes_left op.Gt left = same_type left Int
takes_left op.Ge left = same_type left Int
takes_left op.In left = is_sought left
takes_left op.NotIn left = is_sought left

-- of an operator that takes the left type
abbrev pub takes_right : Op → ValueType → ValueType → Bool
takes_right op.Eq left right = same_type left right
takes_right op.Ne left right = same_type left right
takes_right op.Lt left right = same_type right Int
takes_right op.Le left right = same_type right Int
takes_right op.Gt left right = same_type right Int
takes_right op.Ge left right = same_type right Int
takes_right op.In left right = holds right left
takes_right op.NotIn left right = holds right left

-- some operator takes one of this type on its left
abbrev pub is_compared : ValueType → Bool
is_compared ty = is_comparable ty || is_sought ty

-- the type that was written or returned before, if one was
abbrev pub same_as : Option ValueType → ValueType → Bool
same_as None ty = true
same_as (Some wanted) ty = same_type wanted ty

-- an expression of this type may stand there
abbrev pub is_expected : Expected → ValueType → Bool
is_expected Anything ty = true
is_expected (One wanted) ty = same_type ty wanted
is_expected (Value before) ty = is_of_values ty && same_as before ty
is_expected NumberOrState ty = same_type ty Int || same_type ty State
