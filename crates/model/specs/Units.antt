-- Units: ticks, wire bytes, bytes of a buffer.
use Rattle.std.specs.Prelude.{ℕ, ◌-◌, ◌^◌}

-- "A port clock runs from 0 to 2^48 − 1"
abbrev pub last_tick : ℕ
last_tick = 2 ^ 48 - 1

-- "Length is in wire bytes: .. so 84 to 1,538"
abbrev pub least_length : ℕ
least_length = 84

abbrev pub greatest_length : ℕ
greatest_length = 1_538

-- "jitter (4, 0 to 125,000)"
abbrev pub greatest_jitter : ℕ
greatest_jitter = 125_000

-- "a stored frame now occupies its length less 20. Held bytes, marks, sizes, the dropped verdict, bytes freed and the mended bound all count
-- so": what a frame of n wire bytes occupies of its buffer, which keeps the Ethernet frame without preamble and gap
abbrev pub unkept : ℕ
unkept = 20

unfoldable pub occupied : ℕ → ℕ
occupied n = n - unkept

-- "A buffer may now contain 256 frames, and fitness allows a queue as many": 16,384 / 64
abbrev pub most_frames : ℕ
most_frames = 256

-- "exceeds 1,600,000": the wire bytes that a line carries in as many ticks, the greatest BAG
abbrev pub line_capacity : ℕ
line_capacity = 1_600_000

-- "a count at 2^52 rises no more", "Fitness requires all counts to be at most 2^52"
abbrev pub full_count : ℕ
full_count = 2 ^ 52
