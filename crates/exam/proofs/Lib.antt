mod Opening
mod Lawful
mod Naming
