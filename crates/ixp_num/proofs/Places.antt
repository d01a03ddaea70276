-- The places of groups in an address, and the forms with room for one group or more.
use Rattle.std.proofs.Common.{◌≡◌, ℕ, zero, suc, ◌+◌, ◌-◌, ◌*◌, ◌%◌, ◌^◌, ◌<◌, ◌≤◌, Result, Ok, Err, ap, ◌∙◌, arith, mul-le-mul_left, mul-le-mul_right, mod-eq_of_lt, pow_mono}
use Rattle.std.proofs.lemmas.Nat.{pow-add}
use Rattle.ixp_num.specs.Forms.{Form, Either}
use Rattle.ixp_num.specs.AddressForms.{dotted_form, more_form, behind_form, gap_form, colon_form, groups_form}
use Rattle.ixp_num.specs.Reading.{Gives, farther}

pub in_place_fits : (group room : ℕ) → group < 65536 → room ≤ 7 → group * 2 ^ (16 * room) % 2 ^ 128 ≡ group * 2 ^ (16 * room)
in_place_fits group room small low =
    let power : 2 ^ (16 * room) ≤ 2 ^ 112 = pow_mono {i = 16 * room} {j = 112} (omega arith) in
    let most : group * 2 ^ (16 * room) ≤ group * 2 ^ 112 = mul-le-mul_left group power in
    let fits : group * 2 ^ (16 * room) < 2 ^ 128 = omega arith in
    mod-eq_of_lt fits

pub next_power : (room : ℕ) → 2 ^ (16 * (room + 1)) ≡ 65536 * 2 ^ (16 * room)
next_power room =
    let e : 16 * (room + 1) ≡ 16 + 16 * room = omega arith in
    ap (λ k. 2 ^ k) e ∙ pow-add 2 16 (16 * room)

-- where `room` groups may follow, one more group leaves room for them
pub more_fits : (n base value group room : ℕ) → group < 65536 → base + (value + 1) * 2 ^ (16 * (room + 1)) ≤ n → base + (value * 65536 + group + 1) * 2 ^ (16 * room) ≤ n
more_fits n base value group room small fits =
    let step : (value * 65536 + group + 1) * 2 ^ (16 * room) ≤ ((value + 1) * 65536) * 2 ^ (16 * room) = mul-le-mul_right (2 ^ (16 * room)) (omega arith) in
    let power = next_power room in
    let whole : (value + 1) * 2 ^ (16 * (room + 1)) ≡ ((value + 1) * 65536) * 2 ^ (16 * room) = ap (λ p. (value + 1) * p) power ∙ omega arith in
    omega arith

pub next_fits : (n value group room : ℕ) → group < 65536 → value + 2 ^ (16 * (room + 1)) ≤ n → (value + group * 2 ^ (16 * room)) + 2 ^ (16 * room) ≤ n
next_fits n value group room small fits =
    let step : (group + 1) * 2 ^ (16 * room) ≤ 65536 * 2 ^ (16 * room) = mul-le-mul_right (2 ^ (16 * room)) (omega arith) in
    let power = next_power room in
    omega arith

pub fits_group : (n base value room : ℕ) → base + (value + 1) * 2 ^ (16 * (room + 1)) ≤ n → base + (value + 1) * 65536 ≤ n
fits_group n base value room fits =
    let power : 65536 ≤ 2 ^ (16 * (room + 1)) = pow_mono {i = 16} {j = 16 * (room + 1)} (omega arith) in
    let most : (value + 1) * 65536 ≤ (value + 1) * 2 ^ (16 * (room + 1)) = mul-le-mul_left (value + 1) power in
    omega arith

pub fits_dotted : (n base value room : ℕ) → 0 < room → base + (value + 1) * 2 ^ (16 * (room + 1)) ≤ n → base + (value + 1) * 2 ^ 32 ≤ n
fits_dotted n base value room some fits =
    let power : 2 ^ 32 ≤ 2 ^ (16 * (room + 1)) = pow_mono {i = 32} {j = 16 * (room + 1)} (omega arith) in
    let most : (value + 1) * 2 ^ 32 ≤ (value + 1) * 2 ^ (16 * (room + 1)) = mul-le-mul_left (value + 1) power in
    omega arith

pub behind_more : (room : ℕ) (form : ℕ → Form) (base value : ℕ) → 0 < room → behind_form room form base value ≡ Either (dotted_form (base + value * 2 ^ 32) form) (more_form form (behind_form (room - 1) form base) base value)
behind_more zero form base value some = absurd (omega arith)
behind_more (suc room) form base value some =
    let e : room ≡ suc room - 1 = omega arith in
    ap (λ r. Either (dotted_form (base + value * 2 ^ 32) form) (more_form form (behind_form r form base) base value)) e

pub gap_more : (room : ℕ) (form : ℕ → Form) (base : ℕ) → 0 < room → gap_form room form base ≡ Either (form base) (behind_form (room - 1) form base 0)
gap_more zero form base some = absurd (omega arith)
gap_more (suc room) form base some =
    let e : room ≡ suc room - 1 = omega arith in
    ap (λ r. Either (form base) (behind_form r form base 0)) e

pub groups_more : (room : ℕ) (form : ℕ → Form) (value : ℕ) → 1 < room → groups_form room form value ≡ colon_form room form (groups_form (room - 1) form) value
groups_more zero form value some = absurd (omega arith)
groups_more (suc zero) form value some = absurd (omega arith)
groups_more (suc (suc room)) form value some =
    let e : suc room ≡ suc (suc room) - 1 = omega arith in
    ap (λ r. colon_form (suc (suc room)) form (groups_form r form) value) e

pub farther_gives : {A B : Type 0} (view : A → B) (one other : Result A ℕ) (x y : Result B ℕ) → Gives view one x → Gives view other y → Gives view (farther one other) (farther x y)
farther_gives view (Ok a) other x y here there = ap (λ r. farther r y) here
farther_gives view (Err l) (Ok b) x y here there = ap (λ r. farther r y) here ∙ ap (farther (Err l)) there
farther_gives view (Err l) (Err m) x y here there = ap (λ r. farther r y) here ∙ ap (farther (Err l)) there
