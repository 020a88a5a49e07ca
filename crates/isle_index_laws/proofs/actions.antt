mod Found
mod Prefixing
