pub mod LengthChecks
