-- The lanes of a block's room, whose arrays are of 64, and the word that a lane ends with. Definitions only.
use Rattle.std.specs.Prelude.{ℕ, ◌+◌, ◌*◌, ◌%◌, length, get_or, replicate, set, ◌≡◌}
use Rattle.std.specs.Float.Ieee.{to_bits, hid, top}
use Rattle.power.specs.Width.{Width, Two}
use Rattle.power.specs.Chain.{exponential_of}
use Rattle.pow.specs.declared.lane.Lane.{Lane}
use Rattle.pow.specs.declared.block.Room.{Room}

-- the lane at a place
abbrev pub lane_at : {F W : Type 0} → W → F → Room F W → ℕ → Lane F W
lane_at zero one r j = record { flag = get_or r.flags j zero; w = get_or r.ws j zero; e = get_or r.es j zero; s = get_or r.ss j one; hi = get_or r.hs j one; lo = get_or r.ls j one; r = get_or r.rs j one; t = get_or r.ts j one }

-- the room with the lane l at a place
abbrev pub put : {F W : Type 0} → Room F W → ℕ → Lane F W → Room F W
put r i l =
    record {
      flags = set r.flags i l.flag;
      ws = set r.ws i l.w;
      es = set r.es i l.e;
      ss = set r.ss i l.s;
      hs = set r.hs i l.hi;
      ls = set r.ls i l.lo;
      rs = set r.rs i l.r;
      ts = set r.ts i l.t;
    }

-- the room whose every word is the one given, and every float
abbrev pub filled : {F W : Type 0} → W → F → Room F W
filled w f =
    let ws = replicate 64 w in
    let fs = replicate 64 f in
    record { flags = ws; ws = ws; es = ws; ss = fs; hs = fs; ls = fs; rs = fs; ts = fs }

-- the room is of 64 lanes
pub record Whole {F W : Type 0} (r : Room F W) : Type 0 where
  pub flags : length r.flags ≡ 64
  pub ws : length r.ws ≡ 64
  pub es : length r.es ≡ 64
  pub ss : length r.ss ≡ 64
  pub hs : length r.hs ≡ 64
  pub ls : length r.ls ≡ 64
  pub rs : length r.rs ≡ 64
  pub ts : length r.ts ≡ 64

-- the word of the exponential of z and w, with n added to its exponent's field
abbrev pub ended_of : Width → Two → ℕ → ℕ
ended_of w q n = (to_bits w.format (exponential_of w q) + n * hid w.format) % (2 * top w.format)
