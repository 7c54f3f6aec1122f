-- When a hop expires (draft-dekater-scion-dataplane), counted in half seconds.
use Rattle.std.specs.Prelude.{ℕ, ◌+◌, ◌*◌, ◌≤◌, Bool, nat_le}

-- the half second at which a hop expires: 337.5 seconds after the timestamp for each unit of `1 +
-- exp_time`
abbrev pub expiry_of : (timestamp exp_time : ℕ) → ℕ
expiry_of timestamp exp_time = 2 * timestamp + 675 * (1 + exp_time)

-- the hop is live at this second: `now` is not later than its expiry
abbrev pub IsLive : (timestamp exp_time now : ℕ) → Type 0
IsLive timestamp exp_time now = 2 * now ≤ expiry_of timestamp exp_time

-- `IsLive` as a Boolean
abbrev pub is_live_at : (timestamp exp_time now : ℕ) → Bool
is_live_at timestamp exp_time now = nat_le (2 * now) (expiry_of timestamp exp_time)
