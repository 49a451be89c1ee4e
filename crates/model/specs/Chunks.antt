-- The chunks of a block (engine.rs 563-579; document 01, Chunk and value: "Chunks end at period edges. One ticks at
-- phase 0, or when first while the 'any fresh' mark is set"). Definitions only.
use Rattle.std.specs.Prelude.{◌≡◌, refl, true, false, cond, ◌&&◌, ◌||◌, List, [], ◌∷◌, map, ℕ, zero, suc, ◌+◌, ◌-◌, ◌*◌}
use Rattle.std.specs.Prelude.{◌/◌, ◌%◌, min, eqb, ltb}
use Rattle.config.specs.Sizes.{period}
use Rattle.feed.specs.Numbers.{up_from}
use Rattle.state.specs.declared.Block.{Block}
use Rattle.state.specs.declared.Chunk.{Chunk}

-- how many chunks a block has: none where its range is empty
unfoldable pub chunk_total : Block → ℕ
chunk_total b = cond (ltb b.start b.end) ((b.phase % period + (b.end - b.start) + (period - 1)) / period) 0

-- where chunk i starts
abbrev pub chunk_start : Block → ℕ → ℕ
chunk_start b zero = b.start
chunk_start b (suc i) = b.start + (period - b.phase % period) + i * period

abbrev pub chunk_phase : Block → ℕ → ℕ
chunk_phase b zero = b.phase % period
chunk_phase b (suc i) = 0

unfoldable pub chunk_of : Block → ℕ → Chunk
chunk_of b i =
    record {
      start = chunk_start b i;
      len = min (period - chunk_phase b i) (b.end - chunk_start b i);
      phase = chunk_phase b i;
      tick = eqb (chunk_phase b i) 0 || (eqb i 0 && b.first_tick);
    }

-- THE CHUNKS of a block
unfoldable pub chunk_list : Block → List Chunk
unfolding chunk_total chunk_of
chunk_list b = map (chunk_of b) (up_from 0 (chunk_total b))

-- document 01, case 4: phase 5, range 0 to 64: lengths 27, 32, 5; starts 0, 27, 59
case-4 : chunk_list (record { start = 0; end = 64; phase = 5; first_tick = false })
    ≡ record { start = 0; len = 27; phase = 5; tick = false } ∷ record { start = 27; len = 32; phase = 0; tick = true }
    ∷ record { start = 59; len = 5; phase = 0; tick = true } ∷ []
unfolding chunk_list chunk_total chunk_of
case-4 = refl
