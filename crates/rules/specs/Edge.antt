-- The rules at their edges, and one whole trace, computed.
use Rattle.std.specs.Prelude.{◌≡◌, ℕ, true, false, List, [], ◌∷◌, ◌++◌, map, replicate, Some, None, Option}
use Rattle.std.proofs.Common.{lit≤}
use Rattle.sheet.specs.declared.sheet.Sheet.{Sheet}
use Rattle.sheet.specs.declared.admit.SheetError.TheVariants.{RoundTooLong}
use Rattle.sheet.specs.Admit.{verdict, refusal}
use Rattle.rules.specs.declared.pins.Pins.{Pins}
use Rattle.rules.specs.Beat.{column}
use Rattle.rules.specs.declared.fault.Fault.{Fault}
use Rattle.rules.specs.declared.fault.Rule.{Rule}
use Rattle.rules.specs.declared.fault.Rule.TheVariants.{RowTime, Misplaced, Distance}
use Rattle.rules.specs.Meaning.{run, outs}
use Rattle.rules.specs.Cases.{L, H, line, nop, bst, pre_both, load_mask, load_colour, act, actm, rd, wr, bw, small, device, power_up}

abbrev pub quick : Sheet
quick = small 1 1 5120 (lit≤ tt, lit≤ tt) (lit≤ tt, lit≤ tt) (lit≤ tt, lit≤ tt)

abbrev pub slow : Sheet
slow = small 1 3 5120 (lit≤ tt, lit≤ tt) (lit≤ tt, lit≤ tt) (lit≤ tt, lit≤ tt)

abbrev pub two : Sheet
two = small 2 1 5120 (lit≤ tt, lit≤ tt) (lit≤ tt, lit≤ tt) (lit≤ tt, lit≤ tt)

abbrev pub fault_at : Rule → ℕ → Option Fault
fault_at k t = Some (record { rule = k; clock = t })

-- the fault after power-up of length-1 bursts and the given clocks
abbrev pub fault_after : Sheet → List Pins → Option Fault
fault_after s ps = (run (device s 0) (power_up 0x10 ++ ps)).state.fault

-- twelve clocks: power-up, ACT, a WR that holds lane 3 back, RD, and an ACT on the open bank
abbrev judged : List Pins
judged =
    line L L H L L 0 0x100 0 ∷ (line L L L L L 0 0x010 0 ∷ (line L H H H L 0 0 0 ∷ (line L L L H L 0 0 0 ∷ (line L H H H L 0 0 0
    ∷ (line L L L H L 0 0 0 ∷ (line L H H H L 0 0 0 ∷ (line L L H H L 0 0x003 0 ∷ (line L H L L L 8 0x005 0x12345678
    ∷ (line L H L H L 0 0x005 0 ∷ (line L H H H L 0 0 0 ∷ (line L L H H L 0 0x003 0 ∷ [])))))))))))

-- thirteen numbers with n 4 and the given ret
abbrev numbers_with : ℕ → List ℕ
numbers_with ret = 1 ∷ (4 ∷ (1 ∷ (1 ∷ (1 ∷ (2048 ∷ (2 ∷ (1 ∷ (1 ∷ (1 ∷ (4 ∷ (ret ∷ (0 ∷ []))))))))))))

pub record Edge : Type 0 where
  pub interleaved : map (column true 8 5) (0 ∷ (1 ∷ (2 ∷ (3 ∷ (4 ∷ (5 ∷ (6 ∷ (7 ∷ []))))))))
      ≡ 5 ∷ (4 ∷ (7 ∷ (6 ∷ (1 ∷ (0 ∷ (3 ∷ (2 ∷ [])))))))
  pub sequential : map (column false 4 6) (0 ∷ (1 ∷ (2 ∷ (3 ∷ [])))) ≡ 6 ∷ (7 ∷ (4 ∷ (5 ∷ [])))
  pub rcd_short : fault_after slow (act 3 ∷ (nop ∷ (rd 5 ∷ []))) ≡ fault_at Distance 10
  pub rcd_met : fault_after slow (act 3 ∷ (nop ∷ (nop ∷ (rd 5 ∷ [])))) ≡ None
  pub row_closed_in_time : fault_after quick (act 3 ∷ (replicate 2047 nop ++ (pre_both ∷ []))) ≡ None
  pub row_open_too_long : fault_after quick (act 3 ∷ replicate 2049 nop) ≡ fault_at RowTime 2057
  pub block : map (run (device quick 0) (power_up 0x10 ++ (load_colour 0xA1B2C3D4 ∷ (nop ∷ (act 0 ∷ (bw 16 3 ∷ [])))))).cells
      (15 ∷ (16 ∷ (17 ∷ (18 ∷ [])))) ≡ 0 ∷ (0xD4 ∷ (0xD4 ∷ (0 ∷ [])))
  pub masked : (run (device quick 0xFFFFFFFF) (power_up 0x10 ++ (load_mask 0x0000FF00 ∷ (nop ∷ (actm 0 ∷ (wr 5 0 ∷ [])))))).cells 5
      ≡ 0xFFFF00FF
  pub plain : (run (device quick 0xFFFFFFFF) (power_up 0x10 ++ (load_mask 0x0000FF00 ∷ (nop ∷ (act 0 ∷ (wr 5 0 ∷ [])))))).cells 5
      ≡ 0
  pub stopped : map (λ o. o.0) (outs (device two 0)
      (power_up 0x23 ++ (act 0 ∷ (nop ∷ (rd 0 ∷ (nop ∷ (nop ∷ (bst ∷ replicate 6 nop))))))))
      ≡ replicate 11 0 ++ (15 ∷ (15 ∷ (15 ∷ replicate 5 0)))
  pub judge_out : outs (device quick 0) judged ≡ replicate 10 (0, 0) ++ ((7, 0x00345678) ∷ ((0, 0) ∷ []))
  pub judge_fault : (run (device quick 0) judged).state.fault ≡ fault_at Misplaced 12
  pub round_met : verdict (numbers_with 5120) ≡ (0, numbers_with 5120)
  pub round_short : verdict (numbers_with 5119) ≡ refusal RoundTooLong
