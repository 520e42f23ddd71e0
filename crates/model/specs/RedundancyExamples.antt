-- Networks A and B: the examples of M-101, and ours, each from a fresh state.
use Rattle.std.specs.Prelude.{Bool, true, false, List, [], ◌∷◌, map, reverse, ℕ, ◌-◌, ◌^◌}
use Rattle.model.specs.Redundancy.{Waiting, Presented, Network, neither, network_a, network_b, Entry, absent, run}

-- an answer but for its state
pub record Reply : Type 0 where
  pub refused : ℕ
  pub network : Network
  pub handed_on : Bool
  pub part : List ℕ

-- a skew, calls in order, and what comes of each
pub record Recording : Type 0 where
  pub skew : ℕ
  pub calls : List Presented
  pub replies : List Reply

abbrev pub recording : ℕ → List Presented → List Reply → Recording
recording skew calls replies = record { skew = skew; calls = calls; replies = replies }

abbrev pub reply_of : Entry → Reply
reply_of e =
    record {
      refused = e.answer.decision.refused;
      network = e.answer.decision.network;
      handed_on = e.answer.decision.handed_on;
      part = e.answer.part;
    }

unfoldable pub replies_to : ℕ → List Presented → List Reply
replies_to skew calls = reverse (map reply_of (run skew (reverse calls)))

-- ---- shorthand: a frame of two bytes, 7 and its number, and its tick; presented alone on A, on B
abbrev pub waits : ℕ → ℕ → Waiting
waits number tick = record { frame = 7 ∷ number ∷ []; tick = tick }

abbrev pub from_a : ℕ → ℕ → Presented
from_a number tick = record { a = waits number tick; b = absent }

abbrev pub from_b : ℕ → ℕ → Presented
from_b number tick = record { a = absent; b = waits number tick }

-- handed on; not handed on; refused
abbrev pub on : Network → Reply
on network = record { refused = 0; network = network; handed_on = true; part = 7 ∷ [] }

abbrev pub left : Network → Reply
left network = record { refused = 0; network = network; handed_on = false; part = [] }

abbrev pub refused : ℕ → Reply
refused n = record { refused = n; network = neither; handed_on = false; part = [] }

-- A5@10 B5@110: exactly skew later is still a copy
abbrev pub at_skew : Recording
at_skew = recording 100 (from_a 5 10 ∷ from_b 5 110 ∷ []) (on network_a ∷ left network_b ∷ [])

-- A5@10 B5@111: more than skew later is not
abbrev pub past_skew : Recording
past_skew = recording 100 (from_a 5 10 ∷ from_b 5 111 ∷ []) (on network_a ∷ on network_b ∷ [])

-- A255 A2: after 255 come 1 and 2
abbrev pub over_255 : Recording
over_255 = recording 100 (from_a 255 1 ∷ from_a 2 2 ∷ []) (on network_a ∷ on network_a ∷ [])

-- A254 A1: after 254 come 255 and 1
abbrev pub over_254 : Recording
over_254 = recording 100 (from_a 254 1 ∷ from_a 1 2 ∷ []) (on network_a ∷ on network_a ∷ [])

-- A254 A2: 2 is the third after 254
abbrev pub third_after : Recording
third_after = recording 100 (from_a 254 1 ∷ from_a 2 2 ∷ []) (on network_a ∷ left network_a ∷ [])

-- A0 A2: after 0 come 1 and 2
abbrev pub second_after_0 : Recording
second_after_0 = recording 100 (from_a 0 1 ∷ from_a 2 2 ∷ []) (on network_a ∷ on network_a ∷ [])

-- A0 A3: 3 is the third after 0
abbrev pub third_after_0 : Recording
third_after_0 = recording 100 (from_a 0 1 ∷ from_a 3 2 ∷ []) (on network_a ∷ left network_a ∷ [])

-- A10 A20 A21: 20 is not sound, and is the previous one all the same
abbrev pub previous_unsound : Recording
previous_unsound = recording 100 (from_a 10 1 ∷ from_a 20 2 ∷ from_a 21 3 ∷ []) (on network_a ∷ left network_a ∷ on network_a ∷ [])

-- A10 A20 A11: 11 would be sound after 10, but 20 came between
abbrev pub previous_passed : Recording
previous_passed = recording 100 (from_a 10 1 ∷ from_a 20 2 ∷ from_a 11 3 ∷ []) (on network_a ∷ left network_a ∷ left network_a ∷ [])

-- A1 B128: 1 to 127 after 1 are 2 to 128
abbrev pub last_of_127 : Recording
last_of_127 = recording 100 (from_a 1 1 ∷ from_b 128 2 ∷ []) (on network_a ∷ on network_b ∷ [])

-- A1 B129: 129 is the 128th
abbrev pub first_beyond : Recording
first_beyond = recording 100 (from_a 1 1 ∷ from_b 129 2 ∷ []) (on network_a ∷ left network_b ∷ [])

-- A200 B72: after 200 they are 201 to 255 and 1 to 72
abbrev pub last_round : Recording
last_round = recording 100 (from_a 200 1 ∷ from_b 72 2 ∷ []) (on network_a ∷ on network_b ∷ [])

-- A200 B73: 73 is the 128th
abbrev pub first_round : Recording
first_round = recording 100 (from_a 200 1 ∷ from_b 73 2 ∷ []) (on network_a ∷ left network_b ∷ [])

-- A0 B127: after 0 they are 1 to 127
abbrev pub last_after_0 : Recording
last_after_0 = recording 100 (from_a 0 1 ∷ from_b 127 2 ∷ []) (on network_a ∷ on network_b ∷ [])

-- A0 B128: 128 is the 128th
abbrev pub first_after_0 : Recording
first_after_0 = recording 100 (from_a 0 1 ∷ from_b 128 2 ∷ []) (on network_a ∷ left network_b ∷ [])

-- A5 B0 A0: 0 is handed on where the last was not 0, and not again
abbrev pub zero_twice : Recording
zero_twice = recording 100 (from_a 5 1 ∷ from_b 0 2 ∷ from_a 0 3 ∷ []) (on network_a ∷ on network_b ∷ left network_a ∷ [])

-- A0 B5 A0: the last was 5
abbrev pub zero_again : Recording
zero_again = recording 100 (from_a 0 1 ∷ from_b 5 2 ∷ from_a 0 3 ∷ []) (on network_a ∷ on network_b ∷ on network_a ∷ [])

-- A0@0 B0@60 A0@101: a copy that is not handed on refreshes nothing
abbrev pub age_of_handing_on : Recording
age_of_handing_on = recording 100 (from_a 0 0 ∷ from_b 0 60 ∷ from_a 0 101 ∷ []) (on network_a ∷ left network_b ∷ on network_a ∷ [])

-- A5@10 B5@20 A6@15: 18 goes by the frame taken last, handed on or not
abbrev pub below_taken : Recording
below_taken = recording 100 (from_a 5 10 ∷ from_b 5 20 ∷ from_a 6 15 ∷ []) (on network_a ∷ left network_b ∷ refused 18 ∷ [])

-- A5@10 B40@9 B90@10: B40 is refused and not received, so B90 is the first on B
abbrev pub refused_not_received : Recording
refused_not_received = recording 100 (from_a 5 10 ∷ from_b 40 9 ∷ from_b 90 10 ∷ []) (on network_a ∷ refused 18 ∷ on network_b ∷ [])

-- A5@2^64 − 6 B5@2^64 − 1: sums of these ticks pass 2^64
abbrev pub near_the_end : Recording
near_the_end = recording 5 (from_a 5 (2 ^ 64 - 6) ∷ from_b 5 (2 ^ 64 - 1) ∷ []) (on network_a ∷ left network_b ∷ [])

-- A0@0 A1@1 B0@2 B1@3: with something between, the rules let a copy through
abbrev pub both_copies : Recording
both_copies = recording 100 (from_a 0 0 ∷ from_a 1 1 ∷ from_b 0 2 ∷ from_b 1 3 ∷ []) (on network_a ∷ on network_a ∷ on network_b ∷ on network_b ∷ [])

-- both present at 7: A, and the part is that of A
abbrev pub tie : Recording
tie = recording 100 (record { a = waits 5 7; b = record { frame = 9 ∷ 9 ∷ 5 ∷ []; tick = 7 } } ∷ []) (on network_a ∷ [])

-- both present, B earlier: B, and the part is that of B
abbrev pub earlier_on_b : Recording
earlier_on_b = recording 100 (record { a = record { frame = 9 ∷ 9 ∷ 5 ∷ []; tick = 8 }; b = waits 5 7 } ∷ []) (on network_b ∷ [])

-- both empty is 17, before 18: an absent frame's tick is not read
abbrev pub both_empty : Recording
both_empty = recording 100 (from_a 5 10 ∷ record { a = absent; b = absent } ∷ []) (on network_a ∷ refused 17 ∷ [])

-- a frame of one byte is handed on, with an empty part
abbrev pub one_byte : Recording
one_byte =
    recording 100 (record { a = record { frame = 5 ∷ []; tick = 1 }; b = absent } ∷ [])
    (record { refused = 0; network = network_a; handed_on = true; part = [] } ∷ [])

abbrev pub recordings : List Recording
recordings =
    at_skew ∷ past_skew ∷ over_255 ∷ over_254 ∷ third_after ∷ second_after_0 ∷ third_after_0 ∷ previous_unsound ∷ previous_passed
    ∷ last_of_127 ∷ first_beyond ∷ last_round ∷ first_round ∷ last_after_0 ∷ first_after_0 ∷ zero_twice ∷ zero_again
    ∷ age_of_handing_on ∷ below_taken ∷ refused_not_received ∷ near_the_end ∷ both_copies ∷ tie ∷ earlier_on_b ∷ both_empty ∷ one_byte
    ∷ []
