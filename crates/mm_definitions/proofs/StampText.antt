-- A stamp is ASCII.
use Rattle.std.proofs.Common.{ℕ, ◌+◌, ◌/◌, ◌%◌, ◌<◌, arith, lit<, Result, Ok, Err, IsOk, MatchResult, refl}
use Rattle.std.specs.Str.{IsAscii, IsUtf8}
use Rattle.std.proofs.lemmas.Str.Ascii.{IsAscii-from_all}
use Rattle.std.proofs.lemmas.List.Elements.{All-from_recursion}
use Rattle.std.proofs.lemmas.Str.{IsUtf8-from_ascii}
use Rattle.mm_definitions.specs.Stamp.{stamp_text}

digit_low : (n : ℕ) → 48 + n % 10 < 128
digit_low n = omega arith

stamp_ascii : (year month day time : ℕ) → IsAscii (stamp_text year month day time)
stamp_ascii year month day time = IsAscii-from_all (stamp_text year month day time)
    (All-from_recursion (λ b. b < 128) (stamp_text year month day time) (
      digit_low (year / 1000),
      (
        digit_low (year / 100),
        (
          digit_low (year / 10),
          (
            digit_low (year),
            (
              lit< tt,
              (
                digit_low (month / 10),
                (
                  digit_low (month),
                  (
                    lit< tt,
                    (
                      digit_low (day / 10),
                      (
                        digit_low (day),
                        (
                          lit< tt,
                          (
                            digit_low (time / 3600000 / 10),
                            (
                              digit_low (time / 3600000),
                              (
                                lit< tt,
                                (
                                  digit_low (time / 60000 % 60 / 10),
                                  (
                                    digit_low (time / 60000 % 60),
                                    (
                                      lit< tt,
                                      (
                                        digit_low (time / 1000 % 60 / 10),
                                        (
                                          digit_low (time / 1000 % 60),
                                          (
                                            lit< tt,
                                            (
                                              digit_low (time % 1000 / 100),
                                              (digit_low (time % 1000 / 10), (digit_low (time % 1000), (lit< tt, tt))),
                                            ),
                                          ),
                                        ),
                                      ),
                                    ),
                                  ),
                                ),
                              ),
                            ),
                          ),
                        ),
                      ),
                    ),
                  ),
                ),
              ),
            ),
          ),
        ),
      ),
    ))

pub stamp_utf8 : (year month day time : ℕ) → IsUtf8 (stamp_text year month day time)
stamp_utf8 year month day time = IsUtf8-from_ascii (stamp_text year month day time) (stamp_ascii year month day time)

pub utf8_ok : {X E : Type 0} (r : Result X E) (P : X → Type 0) (U : Type 0) (Q : E → Type 0)
    → MatchResult r P (λ e. (¬ U) × Q e) → U → IsOk r
utf8_ok (Ok x) P U Q h u = refl
utf8_ok (Err e) P U Q h u = absurd (h.0 u)
