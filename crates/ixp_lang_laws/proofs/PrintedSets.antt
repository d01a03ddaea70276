-- The printed text of words, numbers, sets and values has their canonical tokens.
use Rattle.std.proofs.Common.{◌≡◌, ℕ, Bool, true, false, ◌&&◌, ◌==◌, List, [], ◌∷◌, ◌++◌, codes, decimal, Option, Some, None, refl, if◌then◌else◌}
use Rattle.ixp_num.specs.declared.addr.Addr.{Addr}
use Rattle.ixp_num.specs.declared.pattern.Pattern.{Pattern}
use Rattle.ixp_num.specs.Printing.{addr_text, prefix_text, pattern_text, bounds_text}
use Rattle.ixp_num_tables.specs.Joined.{joined, more_joined}
use Rattle.ixp_lang.specs.declared.value.Value.{Value}
use Rattle.ixp_lang.specs.declared.value.Value.TheVariants as value
use Rattle.ixp_lang.specs.declared.value.SetLit.{SetLit}
use Rattle.ixp_lang.specs.declared.value.SetLit.TheVariants as set
use Rattle.ixp_lang_tokens.specs.declared.token.Kind.{Kind}
use Rattle.ixp_lang_tokens.specs.declared.token.Mark.TheVariants as mark
use Rattle.ixp_lang_tokens.specs.Words.{is_profile_word}
use Rattle.ixp_lang_tokens.specs.Written.{FewColons, NoOctet}
use Rattle.ixp_lang_tokens.specs.Bytes.{begins_with, is_digit, is_letter, is_word_byte}
use Rattle.ixp_lang_tokens.specs.Tokens.{word_kind}
use Rattle.std.specs.List.{list_all}
use Rattle.ixp_num.specs.declared.roa.Validity.{Validity}
use Rattle.ixp_num.specs.declared.roa.Validity.TheVariants.{Valid, Invalid, Unknown}
use Rattle.ixp_lang_tokens.specs.declared.token.Kind.TheVariants as token
use Rattle.ixp_print.specs.Texts.{range_text, part_text, pair_text, triple_text, set_items_text, set_text, value_text, bool_text, state_text}
use Rattle.ixp_lang_laws.specs.Canonical.{Before, number, word, sign, more_of, list_of, range_tokens, addr_tokens, pattern_tokens, part_tokens, pair_tokens, triple_tokens, elements_tokens, set_tokens, value_tokens}
use Rattle.ixp_lang_laws.proofs.Steps.{Reads, parted, blank_reads, ends, Ended, ended, between_reads, number_reads, decimal_reads, addr_reads, prefix_reads, word_reads, sign_reads}

-- the piece has these tokens, where what is behind it doesn't go on with it
abbrev pub Prints : List ℕ → Before → Type 0
Prints text tokens = (rest : List ℕ) (behind : List Kind) → ends rest ≡ true → Reads rest behind → Reads (text ++ rest) (tokens behind)

pub comma : (rest : List ℕ) (behind : List Kind) → Reads rest behind → Reads (44 ∷ 32 ∷ rest) (sign mark.Comma behind)
comma rest behind reads = sign_reads mark.Comma (32 ∷ rest) behind refl (blank_reads rest (32 ∷ rest) behind refl reads)

-- Lists.

more_joined_reads : {A : Type 0} (text : A → List ℕ) (tokens : A → Before) → ((x : A) → Prints (text x) (tokens x)) → (xs : List A) → (rest : List ℕ) (behind : List Kind) → ends rest ≡ true → Reads rest behind
    → (ends (more_joined (codes ", ") text xs ++ rest) ≡ true) × Reads (more_joined (codes ", ") text xs ++ rest) (more_of tokens xs behind)
more_joined_reads text tokens each [] rest behind stops reads = (stops, reads)
more_joined_reads text tokens each (x ∷ xs) rest behind stops reads =
    let more = more_joined_reads text tokens each xs rest behind stops reads in
    (refl, comma _ _ (parted (text x) (more_joined (codes ", ") text xs) rest _ (each x _ _ more.0 more.1)))

pub joined_reads : {A : Type 0} (text : A → List ℕ) (tokens : A → Before) → ((x : A) → Prints (text x) (tokens x)) → (xs : List A) → Prints (joined (codes ", ") text xs) (list_of tokens xs)
joined_reads text tokens each [] rest behind stops reads = reads
joined_reads text tokens each (x ∷ xs) rest behind stops reads =
    let more = more_joined_reads text tokens each xs rest behind stops reads in
    parted (text x) (more_joined (codes ", ") text xs) rest _ (each x _ _ more.0 more.1)

-- Elements.

number_prints : (n : ℕ) → Prints (decimal n) (number n)
number_prints n rest behind stops reads = number_reads n rest behind stops reads

addr_prints : (a : Addr) → Prints (addr_text a) (addr_tokens a)
addr_prints a rest behind stops reads = addr_reads a rest behind stops reads

part_prints : (n : Option ℕ) → Prints (part_text n) (part_tokens n)
part_prints None rest behind stops reads = sign_reads mark.Star rest behind refl reads
part_prints (Some n) rest behind stops reads = number_reads n rest behind stops reads

pair_prints : (p : ℕ × Option ℕ) → Prints (pair_text p) (pair_tokens p)
pair_prints (a, b) rest behind stops reads =
    sign_reads mark.Open _ _ refl
    (parted ((decimal a ++ codes ", ") ++ part_text b) (codes ")") rest _
    (parted (decimal a ++ codes ", ") (part_text b) (41 ∷ rest) _
    (parted (decimal a) (codes ", ") (part_text b ++ (41 ∷ rest)) _
    (number_reads a _ _ refl (comma _ _ (part_prints b (41 ∷ rest) _ refl (sign_reads mark.Close rest behind refl reads)))))))

triple_prints : (t : ℕ × ℕ × Option ℕ) → Prints (triple_text t) (triple_tokens t)
triple_prints (a, b, c) rest behind stops reads =
    sign_reads mark.Open _ _ refl
    (parted ((((decimal a ++ codes ", ") ++ decimal b) ++ codes ", ") ++ part_text c) (codes ")") rest _
    (parted (((decimal a ++ codes ", ") ++ decimal b) ++ codes ", ") (part_text c) (41 ∷ rest) _
    (parted ((decimal a ++ codes ", ") ++ decimal b) (codes ", ") (part_text c ++ (41 ∷ rest)) _
    (parted (decimal a ++ codes ", ") (decimal b) (44 ∷ 32 ∷ (part_text c ++ (41 ∷ rest))) _
    (parted (decimal a) (codes ", ") (decimal b ++ (44 ∷ 32 ∷ (part_text c ++ (41 ∷ rest)))) _
    (number_reads a _ _ refl (comma _ _ (number_reads b _ _ refl (comma _ _ (part_prints c (41 ∷ rest) _ refl (sign_reads mark.Close rest behind refl reads)))))))))))

pub bounds_reads : (low high : ℕ) (rest : List ℕ) (behind : List Kind) → begins_with is_digit rest ≡ false → NoOctet rest → FewColons rest → Reads rest behind
    → Reads (range_text (low, high) ++ rest) (range_tokens (low, high) behind)
bounds_reads low high rest behind digit octet few reads = by_case (low == high)
  where
    by_case : (same : Bool) → Reads ((if same then decimal low else (decimal low ++ codes ".." ++ decimal high)) ++ rest) (if same then number low behind else number low (sign mark.Range (number high behind)))
    by_case true = decimal_reads low rest behind digit octet few reads
    by_case false =
        parted (decimal low ++ codes "..") (decimal high) rest _
        (parted (decimal low) (codes "..") (decimal high ++ rest) _ (between_reads low high rest behind digit octet few reads))

range_prints : (r : ℕ × ℕ) → Prints (range_text r) (range_tokens r)
range_prints (low, high) rest behind stops reads = (let e : Ended rest = ended rest stops in bounds_reads low high rest behind e.2 e.5 e.4 reads)

pattern_prints : (p : Pattern) → Prints (pattern_text p) (pattern_tokens p)
pattern_prints p rest behind stops reads = by_case (p.low == p.prefix.len && p.high == p.prefix.len)
  where
    by_case : (whole : Bool)
        → Reads ((if whole then prefix_text p.prefix else bounds_text p) ++ rest)
        (token.Prefix p.prefix ∷ (if whole then behind else sign mark.BlockOpen (number p.low (sign mark.Comma (number p.high (sign mark.BlockClose behind))))))
    by_case true = prefix_reads p.prefix rest behind stops reads
    by_case false =
        parted (prefix_text p.prefix) (123 ∷ (decimal p.low ++ 44 ∷ (decimal p.high ++ 125 ∷ []))) rest _
        (prefix_reads p.prefix _ _ refl
        (sign_reads mark.BlockOpen _ _ refl
        (parted (decimal p.low) (44 ∷ (decimal p.high ++ 125 ∷ [])) rest _
        (number_reads p.low _ _ refl
        (sign_reads mark.Comma _ _ refl
        (parted (decimal p.high) (125 ∷ []) rest _
        (number_reads p.high _ _ refl (sign_reads mark.BlockClose rest behind refl reads))))))))

elements_prints : (s : SetLit) → Prints (set_items_text s) (elements_tokens s)
elements_prints (set.Ints rs) rest behind stops reads = joined_reads range_text range_tokens range_prints rs rest behind stops reads
elements_prints (set.Ips addrs) rest behind stops reads = joined_reads addr_text addr_tokens addr_prints addrs rest behind stops reads
elements_prints (set.Prefixes ts) rest behind stops reads = joined_reads pattern_text pattern_tokens pattern_prints ts rest behind stops reads
elements_prints (set.Pairs ps) rest behind stops reads = joined_reads pair_text pair_tokens pair_prints ps rest behind stops reads
elements_prints (set.Triples ts) rest behind stops reads = joined_reads triple_text triple_tokens triple_prints ts rest behind stops reads

pub set_prints : (s : SetLit) → Prints (set_text s) (set_tokens s)
set_prints s rest behind stops reads =
    sign_reads mark.SetOpen _ _ refl
    (parted (set_items_text s) (codes "]") rest _ (elements_prints s (93 ∷ rest) _ refl (sign_reads mark.SetClose rest behind refl reads)))

-- Words.

-- a word of the language
abbrev pub IsWord : List ℕ → Type 0
IsWord w = (begins_with is_letter w ≡ true) × (list_all is_word_byte w ≡ true) × (word_kind w ≡ token.Word w)

pub plain_word : (w : List ℕ) → IsWord w → Prints w (word w)
plain_word w is rest behind stops reads = (let e : Ended rest = ended rest stops in word_reads w rest behind is.0 is.1 is.2 e.0 e.4 reads)

bool_prints : (b : Bool) → Prints (bool_text b) (word (bool_text b))
unfolding is_profile_word
bool_prints true rest behind stops reads = plain_word (codes "true") (refl, refl, refl) rest behind stops reads
bool_prints false rest behind stops reads = plain_word (codes "false") (refl, refl, refl) rest behind stops reads

pub state_word : (s : Validity) → IsWord (state_text s)
unfolding is_profile_word
state_word Valid = (refl, refl, refl)
state_word Invalid = (refl, refl, refl)
state_word Unknown = (refl, refl, refl)

pub value_prints : (v : Value) → Prints (value_text v) (value_tokens v)
value_prints (value.Int n) rest behind stops reads = number_reads n rest behind stops reads
value_prints (value.Bool b) rest behind stops reads = bool_prints b rest behind stops reads
value_prints (value.Ip a) rest behind stops reads = addr_reads a rest behind stops reads
value_prints (value.Net p) rest behind stops reads = prefix_reads p rest behind stops reads
value_prints (value.Pair a b) rest behind stops reads = pair_prints (a, Some b) rest behind stops reads
value_prints (value.Triple a b c) rest behind stops reads = triple_prints (a, b, Some c) rest behind stops reads
value_prints (value.Roa s) rest behind stops reads = plain_word (state_text s) (state_word s) rest behind stops reads
value_prints (value.Set s) rest behind stops reads = set_prints s rest behind stops reads
